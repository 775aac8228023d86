-- `walk::walk::collect` meets its contract: what the loop has written are the leaves so far (`Collects`).
-- Assumes nothing.
use Prim.Native.Nat.{◌/◌}
use mathlib.Core.Path.{◌≡◌}
use lib.ListN.{length}
use Rattle.walk.specs.Inner.{need, depth_of}
use Rattle.walk.proofs.Collecting.{Collects}
use Rattle.walk.proofs.walk.collect.Given as goal

abbrev pub invariant-loop-page : goal.invariant-loop-page
invariant-loop-page l = record {
  same : l.stack.pages.ghost_name ≡ l.initial.stack.pages.ghost_name;
  collects : Collects l.db l.size l.root (depth_of l.initial.stack) (length l.initial.flags) l.initial.leaves l.flags l.stack.pages.now l.leaves l.stack.top l.n;
}

abbrev pub decreases-loop-page : goal.decreases-loop-page
decreases-loop-page l = need (length l.db / l.size) (depth_of l.stack) l.flags l.stack.top
