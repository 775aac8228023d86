-- `filter::inner::pass_high` meets its contract: the offsets before o are passed over (`PassedOverIs`).
-- Assumes nothing.
use Prim.Native.Nat.{◌≤◌}
use Rattle.filter.specs.Inner.{PassedOverIs}
use Rattle.filter.proofs.inner.pass_high.Given as goal

abbrev pub invariant-loop-o : goal.invariant-loop-o
invariant-loop-o l = (l.start ≤ l.o) × PassedOverIs l.bytes l.hints l.start l.last l.o l.read
