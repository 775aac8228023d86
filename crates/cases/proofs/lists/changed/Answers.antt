-- `cases::lists::changed` meets its contract: each turn counts the cell if the call changed it.
-- Assumes nothing.
use Rattle.std.proofs.Common.{arith, sym, ◌∙◌}
use Rattle.cases.proofs.Cellwise.{changed_start, changed_hit, changed_miss}
use Rattle.cases.proofs.lists.changed.Goals as goal
use Rattle.cases.proofs.lists.changed.Goals.{then-not-is_fresh, else-not-is_fresh}

pub loop-i-init : goal.loop-i-init
loop-i-init c = (omega arith, changed_start _ _)

pub loop-i-preserved : goal.loop-i-preserved
loop-i-preserved c = elim c.if-not-is_fresh.branch [
  | then-not-is_fresh w ↦ (
    omega (arith, w.n-is, c.loop-i.invariant.0),
    w.n-is ∙ rw c.loop-i.invariant.1 (changed_hit _ _ _ (sym c.is_fresh.ensures ∙ w.if-not-is_fresh.true)),
  )
  | else-not-is_fresh w ↦ (
    omega (arith, w.n-is, c.loop-i.invariant.0),
    w.n-is ∙ rw c.loop-i.invariant.1 (changed_miss _ _ _ (sym c.is_fresh.ensures ∙ w.if-not-is_fresh.false)),
  )
]
