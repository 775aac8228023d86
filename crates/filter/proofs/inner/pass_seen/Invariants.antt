-- `filter::inner::pass_seen` meets its contract: the offsets before o are passed over (`PassedOverIs`).
-- Assumes nothing.
use Rattle.filter.specs.Inner.{PassedOverIs}
use Rattle.filter.proofs.inner.pass_seen.Given as goal

abbrev pub invariant-loop-o : goal.invariant-loop-o
invariant-loop-o l = PassedOverIs l.bytes l.hints l.start l.last l.o l.read
