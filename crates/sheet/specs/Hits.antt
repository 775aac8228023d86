-- Rows that were found, with their columns, as words of lent lists; and what a call promises that fills two lists with them.
-- Assumes nothing.
use Rattle.std.specs.Prelude.{ℕ, ◌-◌, ◌≡◌, List, [], ◌∷◌, ◌++◌, length, take, Result, Ok, Err}
use Rattle.sheet.specs.Columns.{unused_words, room_of}
use Rattle.sheet.specs.Filled.{filled_number, filled_written, filled_by, number_after, written_after}
use Rattle.sheet.specs.Refusal.{Checked, after, after_or_kept}
use Rattle.sheet.specs.Sheet.{overlay, rows_words, columns_words}
use Rattle.sheet.specs.declared.columns.Column.{Column}
use Rattle.sheet.specs.declared.filled.Filled.{Filled}
use Rattle.sheet.specs.declared.refusal.Refusal.{Refusal}
use Rattle.sheet.specs.declared.row.Row.{Row}

-- ---- what is found, and the words that say it

-- a row and its columns
pub record Hit : Type 0 where
  pub row : Row
  pub columns : List Column

abbrev pub rows_of : List Hit → List Row
rows_of [] = []
rows_of (h ∷ hs) = h.row ∷ rows_of hs

-- Rule 5.2: a group of `width` entries, and groups one behind the other
abbrev pub group_words : ℕ → Hit → List ℕ
group_words width h = columns_words h.columns ++ unused_words (width - length h.columns)

abbrev pub groups_words : ℕ → List Hit → List ℕ
groups_words width [] = []
groups_words width (h ∷ hs) = group_words width h ++ groups_words width hs

-- ---- a call that fills two lists with rows and their columns, whatever it carves

-- what its answer rests on: what its checks come to, the rows that are there, how many entries a group has, and what the lists hold
pub record RowFilling : Type 0 where
  pub checked : Checked
  pub hits : List Hit
  pub width : ℕ
  pub rows : List ℕ
  pub cols : List ℕ

abbrev pub row_room : RowFilling → ℕ
row_room a = room_of (length a.rows) (length a.cols) a.width

-- Rule 1.1: what it answers, the number of that, and how many rows it says are written
unfoldable pub rows_answer : RowFilling → Result Filled Refusal
rows_answer a = after Err a.checked (Ok (filled_by (length a.hits) (row_room a)))

unfoldable pub rows_number : RowFilling → ℕ
rows_number a = number_after a.checked (length a.hits) (row_room a)

unfoldable pub rows_written : RowFilling → ℕ
rows_written a = written_after a.checked (length a.hits) (row_room a)

-- Rule 1.2: what it leaves in the lists: the first rows, as many as there is room for, over what they held
unfoldable pub rows_left : RowFilling → List ℕ
rows_left a = after_or_kept a.checked (overlay (rows_words (rows_of (take (row_room a) a.hits))) a.rows) a.rows

unfoldable pub entries_left : RowFilling → List ℕ
entries_left a = after_or_kept a.checked (overlay (groups_words a.width (take (row_room a) a.hits)) a.cols) a.cols

-- what such a call comes to: its answer, and what the lists hold at exit
pub record RowOutcome : Type 0 where
  pub answer : Result Filled Refusal
  pub rows : List ℕ
  pub cols : List ℕ

abbrev pub row_outcome : Result Filled Refusal → List ℕ → List ℕ → RowOutcome
row_outcome r rows cols = record { answer = r; rows = rows; cols = cols }

-- what it promises
pub record FillsRows (a : RowFilling) (x : RowOutcome) : Type 0 where
  pub answer : x.answer ≡ rows_answer a
  pub number : filled_number x.answer ≡ rows_number a
  pub written : filled_written x.answer ≡ rows_written a
  pub rows : x.rows ≡ rows_left a
  pub entries : x.cols ≡ entries_left a
