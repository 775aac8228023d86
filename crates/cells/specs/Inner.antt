-- What the code carries between its own functions; nothing that a caller has to believe.
-- Assumes nothing.
use Rattle.std.specs.Prelude.{ℕ, suc, ◌+◌, ◌-◌, ◌*◌, ◌≤◌, ◌<◌, ◌≡◌, List, [], ◌∷◌, length, take, drop, get_or, Option, Some, None}
use Rattle.attempt.specs.Attempt.{attempt_at}
use Rattle.attempt.specs.Inner.{found_at, HitIs}
use Rattle.attempt.specs.Places.{attempt_places}
use Rattle.attempt.specs.declared.inner.Find.{Find}
use Rattle.cells.specs.Cells.{CellRow, Looked, no_cell, cell, cell_at}
use Rattle.cells.specs.declared.inner.cell.Cell.{Cell}
use Rattle.hit.specs.declared.inner.Spot.{Spot}
use Rattle.sheet.specs.Limits.{words_per_row}

-- ---- one turn of a loop
-- it goes on there, if it goes on
abbrev pub GoesTo : ℕ → Option ℕ → Type 0
GoesTo there (Some next) = next ≡ there
GoesTo there None = Unit

-- ---- cells
abbrev pub record_of : List ℕ → ℕ → ℕ → List ℕ
record_of d start end = take (end - start) (drop start d)

-- a cell's record lies in the payload, behind the place where the cell was looked for, and an attempt on it found x
pub record CellFound (d hints : List ℕ) (pos start end id : ℕ) (x : Find) : Type 0 where
  pub is : cell_at d hints pos ≡ cell (record { at = start; end = end; id = id; found = found_at (record_of d start end) 0 x })
  pub past : pos < start
  pub on : start ≤ end
  pub inside : end ≤ length d
  pub found :
      HitIs (record_of d start end) hints 0 (attempt_at (record_of d start end) hints 0) (attempt_places (record_of d start end) 0) x

abbrev pub CellIs : List ℕ → List ℕ → ℕ → Option Cell → Type 0
CellIs d hints pos (Some c) = CellFound d hints pos c.start c.end c.id c.find
CellIs d hints pos None = cell_at d hints pos ≡ no_cell

-- the rows of a place, and where the next cell is looked for
abbrev pub cells_there : Looked → List CellRow
cells_there no_cell = []
cells_there (cell c) = c ∷ []

abbrev pub next_place : ℕ → Looked → ℕ
next_place pos no_cell = suc pos
next_place pos (cell c) = c.end

-- ---- rebuilt headers

-- the rows from k to `cells` are those of cells whose records start there; the payload stands at o in its page
abbrev pub Standing : Spot → ℕ → List ℕ → ℕ → ℕ → List ℕ → Type 0
Standing spot o rows cells k [] = k ≡ cells
Standing spot o rows cells k (v ∷ vs) =
    (k < cells) × (get_or rows (k * words_per_row) 0 ≡ spot.base + (o + v)) × Standing spot o rows cells (suc k) vs
