-- The region scan (rules 4.8 to 4.11).
-- Assumes nothing.
use Rattle.std.specs.Prelude.{ℕ, zero, suc, ◌+◌, ◌-◌, ◌≡◌, cond, List, [], ◌∷◌, ◌++◌, length, ltb, None, Result, Ok, Err}
use Rattle.attempt.specs.Attempt.{Found, Tried, miss, hit, attempt_at}
use Rattle.attempt.specs.Places.{attempt_places}
use Rattle.scan.specs.declared.schema_sig.Scanned.{Scanned}
use Rattle.sheet.specs.Answer.{end_number, end_written}
use Rattle.sheet.specs.Columns.{room_of}
use Rattle.sheet.specs.Confidence.{share}
use Rattle.sheet.specs.Refusal.{Checked, first_held, refusal_number, after, after_or0, after_or_kept}
use Rattle.sheet.specs.Sheet.{overlay, rows_words, columns_words}
use Rattle.sheet.specs.Slice.{slice_checks}
use Rattle.sheet.specs.declared.filled.Filled.TheVariants.{Done, Full}
use Rattle.sheet.specs.declared.refusal.Refusal.TheVariants.{NoRoom}
use Rattle.sheet.specs.declared.refusal.Refusal.{Refusal}
use Rattle.sheet.specs.declared.row.Mode.TheVariants.{Plain}
use Rattle.sheet.specs.declared.row.Row.{Row}
use Rattle.sheet.specs.declared.row.Source.TheVariants.{Scan}

-- the attempts of a scan, one after the other: it is through; a row at an offset finds no room; an attempt at an offset fails, or finds a
-- row
pub data Run : Type 0 where
  through : Run
  no_room : ℕ → Run
  missed : ℕ → Run → Run
  found : ℕ → Found → Run → Run

-- Rule 4.8: offsets are tried while below length - 2; the scan goes on by the bytes consumed, or by 1. n rows of `room` are written; the
-- first argument bounds the attempts.
abbrev pub go_on : ℕ → ℕ → ℕ → (ℕ → ℕ → Run) → Tried → Run
go_on room o n rest miss = missed o (rest (o + 1) n)
go_on room o n rest (hit x) = cond (ltb n room) (found o x (rest (o + x.consumed) (n + 1))) (no_room o)

unfoldable pub scan_from : ℕ → List ℕ → List ℕ → ℕ → ℕ → ℕ → Run
scan_from zero s hints room o n = through
scan_from (suc f) s hints room o n =
    cond (ltb o (length s - 2)) (go_on room o n (λ o' n'. scan_from f s hints room o' n') (attempt_at s hints o)) through

-- ---- what a run comes to

-- Rule 4.9: a row of the scan
abbrev pub row_of : ℕ → ℕ → ℕ → Found → Row
row_of base columns o x =
    record {
      offset = base + o;
      consumed = x.consumed;
      id = None;
      source = Scan;
      confidence = share x.matched columns;
      mode = Plain;
      table = 0;
      padded = x.padded;
    }

abbrev pub rows_of : ℕ → ℕ → Run → List Row
rows_of base columns through = []
rows_of base columns (no_room o) = []
rows_of base columns (missed o t) = rows_of base columns t
rows_of base columns (found o x t) = row_of base columns o x ∷ rows_of base columns t

abbrev pub row_count : Run → ℕ
row_count through = 0
row_count (no_room o) = 0
row_count (missed o t) = row_count t
row_count (found o x t) = suc (row_count t)

abbrev pub entries_of : Run → List ℕ
entries_of through = []
entries_of (no_room o) = []
entries_of (missed o t) = entries_of t
entries_of (found o x t) = columns_words x.columns ++ entries_of t

-- Rule 4.10: the places of the attempts that it finished with, and with them those of the attempt that found no room
abbrev pub finished_places : List ℕ → Run → List ℕ
finished_places s through = []
finished_places s (no_room o) = []
finished_places s (missed o t) = attempt_places s o ++ finished_places s t
finished_places s (found o x t) = attempt_places s o ++ finished_places s t

abbrev pub all_places : List ℕ → Run → List ℕ
all_places s through = []
all_places s (no_room o) = attempt_places s o
all_places s (missed o t) = attempt_places s o ++ all_places s t
all_places s (found o x t) = attempt_places s o ++ all_places s t

-- how many offsets were tried
abbrev pub tried_offsets : Run → ℕ
tried_offsets through = 0
tried_offsets (no_room o) = 1
tried_offsets (missed o t) = suc (tried_offsets t)
tried_offsets (found o x t) = suc (tried_offsets t)

-- Rule 4.11: rows written, the place, and the count; a scan that is through has the region's length for its place
abbrev pub run_place : ℕ → Run → ℕ
run_place len through = len
run_place len (no_room o) = o
run_place len (missed o t) = run_place len t
run_place len (found o x t) = run_place len t

abbrev pub run_number : Run → ℕ
run_number through = 0
run_number (no_room o) = refusal_number NoRoom
run_number (missed o t) = run_number t
run_number (found o x t) = run_number t

-- all rows are written, or a row at `place` found no room
abbrev pub done : ℕ → ℕ → ℕ → Scanned
done rows place read = record { rows = Done rows; place = place; read = read }

abbrev pub full : ℕ → ℕ → ℕ → Scanned
full rows place read = record { rows = Full rows; place = place; read = read }

abbrev pub end_of : ℕ → ℕ → ℕ → Run → Scanned
end_of len rows read through = done rows len read
end_of len rows read (no_room o) = full rows o read
end_of len rows read (missed o t) = end_of len rows read t
end_of len rows read (found o x t) = end_of len rows read t

abbrev pub answer_of : List ℕ → Run → Scanned
answer_of s t = end_of (length s) (row_count t) (length (finished_places s t)) t

-- ---- the call

abbrev pub scan_checked : List ℕ → List ℕ → ℕ → Checked
scan_checked s hints base = first_held (slice_checks (length s) hints base)

-- the paper's number of an answer, with 0 for none, then rows written, place and count
abbrev pub number_of : Result Scanned Refusal → ℕ
number_of (Ok x) = end_number x.rows
number_of (Err r) = refusal_number r

abbrev pub written_of : Result Scanned Refusal → ℕ
written_of (Ok x) = end_written x.rows
written_of (Err r) = 0

abbrev pub place_of : Result Scanned Refusal → ℕ
place_of (Ok x) = x.place
place_of (Err r) = 0

abbrev pub read_of : Result Scanned Refusal → ℕ
read_of (Ok x) = x.read
read_of (Err r) = 0

-- what it is asked: a region, hints, where the region lies, where to start, and what the lists hold
pub record ScanAsked : Type 0 where
  pub region : List ℕ
  pub hints : List ℕ
  pub base : ℕ
  pub start : ℕ
  pub rows : List ℕ
  pub cols : List ℕ

abbrev pub scan_asked : List ℕ → List ℕ → ℕ → ℕ → List ℕ → List ℕ → ScanAsked
scan_asked s hints base start rows cols =
    record { region = s; hints = hints; base = base; start = start; rows = rows; cols = cols }

-- what its checks come to, how many rows there is room for, and its run
abbrev pub call_checked : ScanAsked → Checked
call_checked a = scan_checked a.region a.hints a.base

abbrev pub call_room : ScanAsked → ℕ
call_room a = room_of (length a.rows) (length a.cols) (length a.hints)

abbrev pub scan_run : ScanAsked → Run
scan_run a = scan_from (length a.region) a.region a.hints (call_room a) a.start 0

-- what it answers,
unfoldable pub scan_answer : ScanAsked → Result Scanned Refusal
scan_answer a = after Err (call_checked a) (Ok (answer_of a.region (scan_run a)))

-- the four numbers by the rules, with no answer between,
unfoldable pub scan_number : ScanAsked → ℕ
scan_number a = after refusal_number (call_checked a) (run_number (scan_run a))

unfoldable pub scan_written : ScanAsked → ℕ
scan_written a = after_or0 (call_checked a) (row_count (scan_run a))

unfoldable pub scan_place : ScanAsked → ℕ
scan_place a = after_or0 (call_checked a) (run_place (length a.region) (scan_run a))

unfoldable pub scan_count : ScanAsked → ℕ
scan_count a = after_or0 (call_checked a) (length (finished_places a.region (scan_run a)))

-- and what it leaves in the lists
unfoldable pub scan_rows : ScanAsked → List ℕ
scan_rows a =
    after_or_kept (call_checked a) (overlay (rows_words (rows_of a.base (length a.hints) (scan_run a))) a.rows) a.rows

unfoldable pub scan_cols : ScanAsked → List ℕ
scan_cols a = after_or_kept (call_checked a) (overlay (entries_of (scan_run a)) a.cols) a.cols

-- what it comes to: its answer, and what the lists hold at exit
pub record ScanOutcome : Type 0 where
  pub answer : Result Scanned Refusal
  pub rows : List ℕ
  pub cols : List ℕ

abbrev pub scan_outcome : Result Scanned Refusal → List ℕ → List ℕ → ScanOutcome
scan_outcome r rows cols = record { answer = r; rows = rows; cols = cols }

-- what it promises
pub record ScansRegion (a : ScanAsked) (x : ScanOutcome) : Type 0 where
  pub answer : x.answer ≡ scan_answer a
  pub number : number_of x.answer ≡ scan_number a
  pub written : written_of x.answer ≡ scan_written a
  pub place : place_of x.answer ≡ scan_place a
  pub count : read_of x.answer ≡ scan_count a
  pub rows : x.rows ≡ scan_rows a
  pub entries : x.cols ≡ scan_cols a
