-- `starts::inner::pass_high` meets its contract: all starts up to the last byte from 128 up are dismissed.
-- Assumes nothing.
use Prim.Native.Nat.{◌-◌, ◌≤◌}
use Rattle.starts.specs.Inner.{NoneFrom}
use Rattle.rebuild.specs.declared.rebuilding.Rebuilding.TheVariants.{OneByte}
use Rattle.starts.proofs.inner.pass_high.Given as goal

abbrev pub invariant-loop-at : goal.invariant-loop-at
invariant-loop-at l = (l.v ≤ l.at) × NoneFrom OneByte l.payload l.hints l.v l.at

abbrev pub decreases-loop-at : goal.decreases-loop-at
decreases-loop-at l = l.end - l.at
