-- `cases::lists::fold` meets its contract: each cell is folded in its turn.
-- Assumes nothing.
use Rattle.std.proofs.Common.{◌≡◌}
use Rattle.cases.specs.Lent.{fold_below}
use Rattle.cases.proofs.lists.fold.Given as goal

abbrev pub invariant-loop-cell : goal.invariant-loop-cell
invariant-loop-cell l = l.fold ≡ fold_below l.list l.cell-index
