-- The layout sheet of a scan, and the places that decide it (rules 4.14 and 4.15).
-- Assumes nothing.
use Rattle.std.specs.Prelude.{ℕ, ◌*◌, ◌≤◌, ◌≡◌, List, [], ◌++◌, length, take}
use Rattle.attempt.specs.Places.{most_places}
use Rattle.attempt.specs.Values.{row_values}
use Rattle.record.specs.Places.{AgreeAt}
use Rattle.record.specs.declared.record.Value.{Value}
use Rattle.scan.specs.Scan.{Run, through, no_room, missed, found, rows_of, row_count, entries_of, run_number, run_place}
use Rattle.scan.specs.Scan.{all_places, finished_places, tried_offsets, scan_from, scan_checked}
use Rattle.sheet.specs.Columns.{room_of}
use Rattle.sheet.specs.Limits.{words_per_row, words_per_entry}
use Rattle.sheet.specs.Refusal.{refusal_number, after, after_or0, after_or_kept}
use Rattle.sheet.specs.Sheet.{rows_words}
use Rattle.sheet.specs.Refusal.{Checked}
use Rattle.sheet.specs.declared.refusal.Refusal.{Refusal}

-- Rule 4.14: the row words and the entry words that are written, the answer (its number, and how many rows), and the place
pub record Sheet : Type 0 where
  pub rows : List ℕ
  pub entries : List ℕ
  pub number : ℕ
  pub written : ℕ
  pub place : ℕ

-- what a scan is asked: a region, hints, where the region lies, where to start, and room for so many rows
pub record Asked : Type 0 where
  pub region : List ℕ
  pub hints : List ℕ
  pub base : ℕ
  pub start : ℕ
  pub room : ℕ

-- by a call whose lists hold these words
abbrev pub asked : List ℕ → List ℕ → ℕ → ℕ → List ℕ → List ℕ → Asked
asked s hints base start rows cols =
    record { region = s; hints = hints; base = base; start = start; room = room_of (length rows) (length cols) (length hints) }

abbrev pub asked_checked : Asked → Checked
asked_checked a = scan_checked a.region a.hints a.base

abbrev pub asked_run : Asked → Run
asked_run a = scan_from (length a.region) a.region a.hints a.room a.start 0

-- the sheet and the count by the rules
abbrev pub run_sheet : ℕ → ℕ → ℕ → Run → Sheet
run_sheet len base columns t =
    record {
      rows = rows_words (rows_of base columns t);
      entries = entries_of t;
      number = run_number t;
      written = row_count t;
      place = run_place len t;
    }

abbrev pub empty_sheet : Refusal → Sheet
empty_sheet r = record { rows = []; entries = []; number = refusal_number r; written = 0; place = 0 }

unfoldable pub asked_sheet : Asked → Sheet
asked_sheet a = after empty_sheet (asked_checked a) (run_sheet (length a.region) a.base (length a.hints) (asked_run a))

unfoldable pub asked_count : Asked → ℕ
asked_count a = after_or0 (asked_checked a) (length (finished_places a.region (asked_run a)))

-- as a call leaves it: what stands at the front of both lists, beside the answer
abbrev pub sheet_of : ℕ → ℕ → ℕ → ℕ → List ℕ → List ℕ → Sheet
sheet_of columns number written place rows cols =
    record {
      rows = take (written * words_per_row) rows;
      entries = take (written * (words_per_entry * columns)) cols;
      number = number;
      written = written;
      place = place;
    }

-- Rule 4.15: the header places of a call, those of the attempt that found no room among them; where a check refuses there are none
unfoldable pub asked_places : Asked → List ℕ
asked_places a = after_or_kept (asked_checked a) (all_places a.region (asked_run a)) []

-- Demand 3: the same but for the region, which has the same length and agrees at the header places of the first
pub record Alike (a b : Asked) : Type 0 where
  pub length_same : length a.region ≡ length b.region
  pub hints_same : a.hints ≡ b.hints
  pub base_same : a.base ≡ b.base
  pub start_same : a.start ≡ b.start
  pub room_same : a.room ≡ b.room
  pub places_agree : AgreeAt a.region b.region (asked_places a)

-- Demand 3: the count is the number of header places of the attempts that the scan finished with, at most 520 for each offset tried
pub record Counts (a : Asked) (count : ℕ) : Type 0 where
  pub places : count ≡ length (finished_places a.region (asked_run a))
  pub few : count ≤ most_places * tried_offsets (asked_run a)

-- Rule 4.13: the values of the rows that a run finds, row by row, and of those of a call
abbrev pub run_values : List ℕ → Run → List Value
run_values s through = []
run_values s (no_room o) = []
run_values s (missed o t) = run_values s t
run_values s (found o x t) = row_values s o ++ run_values s t

unfoldable pub asked_values : Asked → List Value
asked_values a = after_or_kept (asked_checked a) (run_values a.region (asked_run a)) []
