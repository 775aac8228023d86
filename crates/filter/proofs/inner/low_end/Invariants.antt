-- `filter::inner::low_end` meets its contract: the bytes before `at` are below 2.
-- Assumes nothing.
use Rattle.filter.specs.Inner.{LowTo}
use Rattle.filter.proofs.inner.low_end.Given as goal

abbrev pub invariant-loop-at : goal.invariant-loop-at
invariant-loop-at l = LowTo l.bytes l.start l.at
