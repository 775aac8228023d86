-- `cases::lists::fold` meets its contract: each turn folds a cell.
-- Assumes nothing.
use Rattle.std.proofs.Common.{sym, ◌∙◌}
use Rattle.cases.proofs.Cellwise.{fold_start, fold_on}
use Rattle.cases.proofs.lists.fold.Goals as goal

pub loop-cell-init : goal.loop-cell-init
loop-cell-init c = fold_start _

pub loop-cell-preserved : goal.loop-cell-preserved
loop-cell-preserved c = c.folded-fold.ensures ∙ rw c.loop-cell.invariant (sym (fold_on _ _))
