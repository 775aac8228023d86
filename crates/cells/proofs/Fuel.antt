-- The bound on the cells never cuts them short: any bound from the payload's length on gives the same ones.
-- Assumes nothing.
use Prim.Native.Nat.{ℕ, zero, suc, ◌+◌, ◌≤◌}
use mathlib.Core.Path.{◌≡◌, sym, ap, ◌∙◌}
use mathlib.Core.List.{List, ◌++◌}
use native.Mathlib.Omega.{arith}
use lib.ListN.{length}
use Rattle.cells.specs.Cells.{CellRow, cell_at, cells_from, cells_of}
use Rattle.cells.specs.Inner.{cells_there, next_place}
use Rattle.cells.proofs.Looking.{next_past, cells_end, cells_on}
use Rattle.record.proofs.Numbers.{by_order}

module _ (d hints : List ℕ) where
  any_fuel : (f g pos : ℕ) → length d ≤ pos + f → length d ≤ pos + g → cells_from f d hints pos ≡ cells_from g d hints pos
  any_fuel zero g pos h k = cells_end d hints 0 pos (omega arith) ∙ sym (cells_end d hints g pos (omega arith))
  any_fuel (suc f) zero pos h k = cells_end d hints (suc f) pos (omega arith) ∙ sym (cells_end d hints 0 pos (omega arith))
  any_fuel (suc f) (suc g) pos h k =
      by_order pos (length d)
      (λ lt.
      let past = next_past d hints pos in
      cells_on d hints f pos lt
      ∙ ap (λ (cs : List CellRow). cells_there (cell_at d hints pos) ++ cs) (any_fuel f g (next_place pos (cell_at d hints pos)) (omega arith) (omega arith))
      ∙ sym (cells_on d hints g pos lt))
      (λ ge. cells_end d hints (suc f) pos ge ∙ sym (cells_end d hints (suc g) pos ge))

  -- THE LAW
  pub all_cells : (g : ℕ) → length d ≤ g → cells_from g d hints 0 ≡ cells_of d hints
  unfolding cells_of
  all_cells g h = any_fuel g (length d) 0 (omega arith) (omega arith)
