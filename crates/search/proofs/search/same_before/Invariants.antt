-- `search::search::same_before` meets its contract. The loop's invariant: from j on the bytes are equal.
-- Assumes nothing.
use Rattle.search.specs.Inner.{SameFrom}
use Rattle.search.proofs.search.same_before.Given as goal

abbrev pub invariant-loop-j : goal.invariant-loop-j
invariant-loop-j l = SameFrom l.haystack l.pattern l.at l.j
