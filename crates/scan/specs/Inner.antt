-- What the code carries between its own functions; nothing that a caller has to believe.
-- Assumes nothing.
use Rattle.std.specs.Prelude.{ℕ, ◌+◌, ◌*◌, ◌≤◌, ◌≡◌, List, length, Ok}
use Rattle.std.proofs.lemmas.List.Edits.{sets}
use Rattle.attempt.specs.Attempt.{Found}
use Rattle.scan.specs.Scan.{scan_from, answer_of, row_of, rows_of, entries_of, ScanOutcome}
use Rattle.sheet.specs.Columns.{room_of}
use Rattle.sheet.specs.Limits.{most_columns, words_per_row, words_per_entry, largest_region, largest_base}
use Rattle.sheet.specs.Row.{row_words}
use Rattle.sheet.specs.Sheet.{overlay, rows_words, columns_words}
use Rattle.sheet.specs.declared.inner.Sheet.{Sheet}

-- a region and hints that have passed the checks
pub record Fit (s hints : List ℕ) (base : ℕ) : Type 0 where
  pub small : length s ≤ largest_region
  pub some : 1 ≤ length hints
  pub few : length hints ≤ most_columns
  pub near : base ≤ largest_base

-- there is room for the next row, and for its entries
pub record RoomFor (s : Sheet) : Type 0 where
  pub row : s.n * words_per_row + words_per_row ≤ length s.rows.now
  pub group : s.n * (words_per_entry * s.width) + words_per_entry * s.width ≤ length s.cols.now

-- a sheet for rows of so many columns on which none stands yet
pub record EmptyFor (columns : ℕ) (s : Sheet) : Type 0 where
  pub width_is : s.width ≡ columns
  pub room_is : s.room ≡ room_of (length s.rows.now) (length s.cols.now) columns
  pub n_is : s.n ≡ 0

-- over the same lists
pub record SameLists (old new : Sheet) : Type 0 where
  pub rows_kept : new.rows.ghost_name ≡ old.rows.ghost_name
  pub cols_kept : new.cols.ghost_name ≡ old.cols.ghost_name

-- with the row at o behind those that stood there
pub record Written (base o : ℕ) (x : Found) (old new : Sheet) : Type 0 where
  pub lists : SameLists old new
  pub width_is : new.width ≡ old.width
  pub room_is : new.room ≡ old.room
  pub n_is : new.n ≡ old.n + 1
  pub rows_are : new.rows.now ≡ sets old.rows.now (old.n * words_per_row) (row_words (row_of base old.width o x))
  pub cols_are : new.cols.now ≡ sets old.cols.now (old.n * (words_per_entry * old.width)) (columns_words x.columns)

-- what a scan leaves
pub record Ran (s hints : List ℕ) (base start room : ℕ) (rows cols : List ℕ) (x : ScanOutcome) : Type 0 where
  pub answer : x.answer ≡ Ok (answer_of s (scan_from (length s) s hints room start 0))
  pub rows_are : x.rows ≡ overlay (rows_words (rows_of base (length hints) (scan_from (length s) s hints room start 0))) rows
  pub cols_are : x.cols ≡ overlay (entries_of (scan_from (length s) s hints room start 0)) cols
