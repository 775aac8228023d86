-- `walk::walk::collect` meets its contract: what the loop has written are the leaves so far (`Collects`).
-- Assumes nothing.
use Prim.Native.Nat.{ℕ, ◌/◌}
use mathlib.Core.Path.{refl, sym, ap, ◌∙◌}
use mathlib.Core.List.{List}
use native.Mathlib.Omega.{arith}
use lib.ListN.{length, replicate}
use Rattle.walk.specs.Inner.{need, rest, depth_of, LeafIs, Collected}
use Rattle.walk.specs.Walk.{walk}
use Rattle.walk.specs.declared.walk.Walked.{Walked}
use Rattle.walk.proofs.Collecting.{collects_start, collects_none, collects_leaf, collects_over, collects_done, collects_overflow}
use Rattle.walk.proofs.walk.collect.Goals as goal
use Rattle.walk.proofs.walk.collect.Goals.{After-begin, In-Ok-Some}

pub returns-in-Err : goal.returns-in-Err
returns-in-Err c = collects_none _ _ _ _ _ _ c.if-flags-db.false (rw c.new-stack.ensures.cells at c.in-Err.ensures.result_after)

pub loop-page-init : goal.loop-page-init
loop-page-init c =
    let begun = c.in_default.ensures in
    let e = rw (← begun.kept.depth) at begun.result_after in
    let clear = begun.flags ∙ ap (λ (k : ℕ). replicate k 0) (sym c.begin.auto.flags) in
    record {
      same = refl;
      collects = collects_start _ _ _ _ _ _ _ _ _ e clear refl begun.kept.inside (omega (arith, c.if-flags-db.false, c.begin.auto.flags));
    }

-- a leaf was popped
found : (c : In-Ok-Some) →
    LeafIs c.args.db.now c.args.size (rest c.loop-page.invariant.collects.along.fuel c.args.db.now c.args.size c.loop-page.flags c.loop-page.stack.pages.now c.loop-page.stack.top)
    (need (length c.args.db.now / c.args.size) (depth_of c.loop-page.stack) c.loop-page.flags c.loop-page.stack.top)
    c.next_leaf.new.flags c.next_leaf.new.stack.pages.now c.in-Ok-Some.page c.next_leaf.new.stack.top
found c = rw c.in-Ok-Some.field-0-is at c.in-Ok-Some.ensures.next c.loop-page.invariant.collects.along.fuel c.loop-page.invariant.collects.along.enough

-- what is collected is said of the flags and the stack as they were lent
lent : (c : After-begin) (r : Walked) (leaves : List ℕ) →
    Collected (length c.args.db.now / c.args.size) (length c.begin.new.flags) (walk c.args.db.now c.args.size (depth_of c.begin.new.stack) c.args.root) c.args.leaves.now r leaves
    → Collected (length c.args.db.now / c.args.size) (length c.args.flags.now) (walk c.args.db.now c.args.size (length c.args.stack.now) c.args.root) c.args.leaves.now r leaves
lent c r leaves x = rw (c.begin.auto.flags, c.begin.ensures.kept.depth, c.new-stack.ensures.cells) at x

pub returns-then-n-leaves : goal.returns-then-n-leaves
returns-then-n-leaves c =
    let at = goal.at.returns-then-n-leaves c in
    lent at.After-begin _ _
    (collects_over _ _ _ _ _ _ _ _ _ _ _ c.loop-page.invariant.collects _ _ _ _ _ (found at.In-Ok-Some) (omega (arith, c.if-n-leaves.true, c.loop-page.auto.leaves)))

pub loop-page-preserved : goal.loop-page-preserved
loop-page-preserved c =
    let at = goal.at.loop-page-preserved c in
    record {
      same = c.in-Ok-Some.ensures.kept.pages_kept ∙ c.loop-page.invariant.same;
      collects = collects_leaf _ _ _ _ _ _ _ _ _ _ _ c.loop-page.invariant.collects _ _ _ _ _ (found at.In-Ok-Some)
          (omega (arith, c.if-n-leaves.false, c.loop-page.auto.leaves)) c.in-Ok-Some.ensures.kept.depth c.next_leaf.auto.flags;
    }

pub returns-in-Ok-None : goal.returns-in-Ok-None
returns-in-Ok-None c =
    let inv = c.loop-page.invariant.collects in
    lent (goal.at.returns-in-Ok-None c).After-begin _ _
    (collects_done _ _ _ _ _ _ _ _ _ _ _ inv (rw c.in-Ok-None.field-0-is at c.in-Ok-None.ensures.next inv.along.fuel inv.along.enough))

pub returns-in-Err-next_leaf : goal.returns-in-Err-next_leaf
returns-in-Err-next_leaf c =
    let inv = c.loop-page.invariant.collects in
    lent (goal.at.returns-in-Err-next_leaf c).After-begin _ _
    (collects_overflow _ _ _ _ _ _ _ _ _ _ _ inv (c.in-Err-next_leaf.ensures.next inv.along.fuel inv.along.enough))
