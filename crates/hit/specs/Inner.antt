-- What the code carries between its own functions; nothing that a caller has to believe.
-- Assumes nothing.
use Rattle.std.specs.Prelude.{ℕ, ◌+◌, ◌*◌, ◌≤◌, ◌≡◌, List, length}
use Rattle.attempt.specs.Attempt.{kinds}
use Rattle.attempt.specs.Inner.{sizes, columns_at, find_types, Headed}
use Rattle.attempt.specs.declared.inner.Find.{Find}
use Rattle.hit.specs.declared.inner.Spot.{Spot}
use Rattle.sheet.specs.Columns.{room_of}
use Rattle.sheet.specs.Limits.{words_per_row, words_per_entry, most_columns, largest_region, largest_base}
use Rattle.sheet.specs.declared.inner.Sheet.{Sheet}
use Rattle.sheet.specs.declared.row.Row.{Row}
use Rattle.sheet.specs.Hits.{Hit}

-- a find at o has its header and so many columns in the bytes
pub record Laid (s : List ℕ) (o : ℕ) (x : Find) (columns : ℕ) : Type 0 where
  pub headed : Headed s o x.head x.from
  pub bodies : o + x.head + sizes (kinds (find_types s o x)) ≤ length s
  pub counts : length (kinds (find_types s o x)) ≡ columns

-- a row with its columns, where the bytes lie `by` bytes into the lent slice
abbrev pub hit_there : List ℕ → ℕ → Find → ℕ → Row → Hit
hit_there s o x by row = record { row = row; columns = columns_at (by + (o + x.head)) (kinds (find_types s o x)) }

-- the next row and its group have their words in the lists
pub record Fitting (columns : ℕ) (s : Sheet) : Type 0 where
  pub narrow : columns ≤ s.width
  pub row : s.n * words_per_row + words_per_row ≤ length s.rows.now
  pub group : s.n * (words_per_entry * s.width) + words_per_entry * s.width ≤ length s.cols.now

-- a sheet for rows of so many columns; there may be less room than its lists have, if other lists are filled beside them
pub record Space (columns : ℕ) (s : Sheet) : Type 0 where
  pub narrow : columns ≤ s.width
  pub room_most : s.room ≤ room_of (length s.rows.now) (length s.cols.now) s.width
  pub fits : s.n ≤ s.room

-- a page of so many bytes is carved into it
pub record Ready (len columns : ℕ) (spot : Spot) (s : Sheet) : Type 0 where
  pub inside : spot.start + len ≤ largest_region
  pub near : spot.base ≤ largest_base
  pub some : 1 ≤ columns
  pub few : columns ≤ most_columns
  pub space : Space columns s
