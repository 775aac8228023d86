-- The rows of a scan as a list of rule 4.17, and the sheet of such a list.
-- Assumes nothing.
use Rattle.std.specs.Prelude.{ℕ, ◌/◌, ◌≤◌, ◌<◌, ◌≡◌, List, [], ◌∷◌, ◌++◌, length, take, drop, replicate}
use Rattle.scan.specs.Scan.{Run, through, no_room, missed, found, row_of}
use Rattle.scan.specs.Sheet.{Sheet, Asked}
use Rattle.scanlaws.specs.Only.{Placed, OnlyList}
use Rattle.sheet.specs.Refusal.{refusal_number}
use Rattle.sheet.specs.Sheet.{rows_words, columns_words}
use Rattle.sheet.specs.declared.refusal.Refusal.TheVariants.{NoRoom}
use Rattle.sheet.specs.declared.row.Row.{Row}

-- Rule 4.18: a region of zeros
abbrev pub zeros : ℕ → List ℕ
zeros n = replicate n 0

-- the rows of a run
abbrev pub placed : Run → List Placed
placed through = []
placed (no_room o) = []
placed (missed o t) = placed t
placed (found o x t) = record { at = o; row = x } ∷ placed t

-- Rule 4.9: the rows of a list, and their entries
abbrev pub placed_rows : ℕ → ℕ → List Placed → List Row
placed_rows base columns [] = []
placed_rows base columns (p ∷ ps) = row_of base columns p.at p.row ∷ placed_rows base columns ps

abbrev pub placed_entries : List Placed → List ℕ
placed_entries [] = []
placed_entries (p ∷ ps) = columns_words p.row.columns ++ placed_entries ps

-- Rule 4.11: the number and the place, with the rows that found no room
abbrev pub number_before : List Placed → ℕ
number_before [] = 0
number_before (p ∷ ps) = refusal_number NoRoom

abbrev pub place_before : ℕ → List Placed → ℕ
place_before len [] = len
place_before len (p ∷ ps) = p.at

-- Rule 4.14: the sheet of rows that are written, and of others behind them that found no room
abbrev pub list_sheet : Asked → List Placed → List Placed → Sheet
list_sheet q written others =
    record {
      rows = rows_words (placed_rows q.base (length q.hints) written);
      entries = placed_entries written;
      number = number_before others;
      written = length written;
      place = place_before (length q.region) others;
    }

-- a scan that leaves the only list of its region
pub record LeavesAll (q : Asked) (x : Sheet) : Type 0 where
  pub only : OnlyList q.region q.hints
  pub left : x ≡ list_sheet q only.list []

-- one that leaves as many of its rows as there is room for: room for all of them is enough, with less it is refused with 9, and there are
-- at most half as many as bytes
pub record LeavesFirst (q : Asked) (x : Sheet) : Type 0 where
  pub only : OnlyList q.region q.hints
  pub left : x ≡ list_sheet q (take q.room only.list) (drop q.room only.list)
  pub enough : length only.list ≤ q.room → x ≡ list_sheet q only.list []
  pub less : q.room < length only.list → x.number ≡ refusal_number NoRoom
  pub few : length only.list ≤ length q.region / 2
