-- `walk::inner::next_leaf` meets its contract. The loop's invariant: the walk that was to come is the walk that is still to come (`Goes`).
-- Assumes nothing.
use Prim.Native.Nat.{◌/◌}
use lib.ListN.{length}
use Rattle.walk.specs.Inner.{need, depth_of}
use Rattle.walk.proofs.Popping.{Goes}
use Rattle.walk.proofs.inner.next_leaf.Given as goal

abbrev pub invariant-loop-page : goal.invariant-loop-page
invariant-loop-page l = Goes l.db l.size l.initial.flags l.initial.stack l.flags l.stack

abbrev pub decreases-loop-page : goal.decreases-loop-page
decreases-loop-page l = need (length l.db / l.size) (depth_of l.stack) l.flags l.stack.top
