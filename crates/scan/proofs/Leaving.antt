-- What a call leaves at the front of its lists is the sheet of its rules.
-- Assumes nothing.
use Rattle.std.specs.Prelude.{Err, Ok}
use Prim.Native.Nat.{ℕ, ◌*◌}
use mathlib.Core.Path.{◌≡◌, refl, ap, ◌∙◌}
use mathlib.Core.List.{List}
use native.Mathlib.Nat.{zero-mul}
use lib.ListN.{length, take, drop}
use lib.Seq.{take-append_seam}
use Rattle.scan.specs.Scan.{Run, rows_of, row_count, entries_of, run_number, run_place, scan_checked, ScanAsked, scan_asked, scan_run, scan_rows, scan_cols, scan_number, scan_written, scan_place, scan_count}
use Rattle.scan.specs.Sheet.{run_sheet, empty_sheet, asked, asked_sheet, asked_count, sheet_of}
use Rattle.scan.proofs.RunValues.{run_reads}
use Rattle.scan.proofs.Running.{rows_count}
use Rattle.sheet.proofs.Laws.{rows_words-length}
use Rattle.sheet.specs.Columns.{room_of}
use Rattle.sheet.specs.Limits.{words_per_row, words_per_entry}
use Rattle.sheet.specs.Refusal.{refusal_number, after, after_or0, after_or_kept}
use Rattle.sheet.specs.Sheet.{overlay, rows_words}
use Rattle.sheet.specs.Refusal.{Checked}

-- what was written is the front of what the list holds
front : (n : ℕ) (ws old : List ℕ) → length ws ≡ n → take n (overlay ws old) ≡ ws
front n ws old e = rw (← e) (take-append_seam ws (drop (length ws) old))

module _ (s hints : List ℕ) (base start : ℕ) (rows cols : List ℕ) where
  abbrev call : ScanAsked
  call = scan_asked s hints base start rows cols

  abbrev t : Run
  t = scan_run call

  -- THE LAW
  pub sheet_left :
      sheet_of (length hints) (scan_number call) (scan_written call) (scan_place call) (scan_rows call) (scan_cols call)
      ≡ asked_sheet (asked s hints base start rows cols)
  unfolding scan_number scan_written scan_place scan_rows scan_cols asked_sheet
  sheet_left = go (scan_checked s hints base)
    where
      go : (c : Checked) →
          sheet_of (length hints) (after refusal_number c (run_number t)) (after_or0 c (row_count t)) (after_or0 c (run_place (length s) t))
          (after_or_kept c (overlay (rows_words (rows_of base (length hints) t)) rows) rows) (after_or_kept c (overlay (entries_of t) cols) cols)
          ≡ after empty_sheet c (run_sheet (length s) base (length hints) t)
      go (Ok tt) =
          rw (
            front (row_count t * words_per_row) (rows_words (rows_of base (length hints) t)) rows (rows_words-length (rows_of base (length hints) t) ∙ ap (λ (k : ℕ). k * words_per_row) (rows_count base (length hints) t)),
            front (row_count t * (words_per_entry * length hints)) (entries_of t) cols (run_reads s hints (length s) (room_of (length rows) (length cols) (length hints)) start 0).words,
          )
      go (Err r) = rw (zero-mul (words_per_entry * length hints))

  -- THE LAW: and the count is theirs
  pub count_left : scan_count call ≡ asked_count (asked s hints base start rows cols)
  unfolding scan_count asked_count
  count_left = refl
