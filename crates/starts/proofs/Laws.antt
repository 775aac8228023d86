-- Rows of cells that are told by their offset.
-- Assumes nothing.
use Rattle.std.specs.Prelude.{ℕ, ◌*◌, ◌<◌, ◌≡◌, refl, Bool, true, false, cond, ◌&&◌, List, ltb, eqb, get_or, Some, None}
use mathlib.Core.Bool.{and-eq-true_iff}
use borrow.Author.Tests.{ltb-true}
use Rattle.sheet.specs.Limits.{words_per_row}
use Rattle.starts.specs.Inner.{next_cell, starts_at, is_cell}

pub cell_below : (rows : List ℕ) (k cells offset : ℕ) → is_cell rows k cells offset ≡ true → k < cells
unfolding is_cell
cell_below rows k cells offset e = ltb-true k cells ((and-eq-true_iff (ltb k cells) (eqb (get_or rows (k * words_per_row) 0) offset)).0 e).0

-- THE LAW: the record of the next cell starts where the next row says
pub next_is : (rows : List ℕ) (k cells offset : ℕ) → starts_at (next_cell rows k cells) offset ≡ is_cell rows k cells offset
unfolding next_cell is_cell
next_is rows k cells offset = go (ltb k cells)
  where
    go : (b : Bool) → starts_at (cond b (Some (get_or rows (k * words_per_row) 0)) None) offset ≡ (b && eqb (get_or rows (k * words_per_row) 0) offset)
    go true = refl
    go false = refl
