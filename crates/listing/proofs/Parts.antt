-- One part: what the scan found, as the definitions have it.
-- Assumes nothing.
use Rattle.std.specs.Prelude.{Err}
use Prim.Native.Nat.{ℕ, ◌≤◌}
use mathlib.Core.Path.{◌≡◌, sym, ◌∙◌}
use mathlib.Core.List.{List, []}
use lib.ListN.{length, replicate, length-replicate}
use Rattle.listing.specs.Part.{row_space, col_space, part_answer, part_text}
use Rattle.listing.specs.Text.{rows_text}
use Rattle.scan.proofs.Laws.{scan_bounded, same_answer, Bounded, answers_asked, AnswersAsked}
use Rattle.scan.specs.Scan.{written_of, scan_asked, ScanOutcome, ScansRegion}
use Rattle.sheet.specs.Columns.{room_of}
use Rattle.sheet.specs.declared.refusal.Refusal.{Refusal}

module _ (s hints : List ℕ) (start : ℕ) where
  pub part_bounded : Bounded (length s) start (room_of row_space col_space (length hints)) (part_answer s hints start)
  unfolding part_answer
  part_bounded = rw (length-replicate {0} {A = ℕ} row_space 0, length-replicate {0} {A = ℕ} col_space 0) at (scan_bounded (scan_asked s hints 0 start (replicate row_space 0) (replicate col_space 0)))

  -- by what a part is asked: room for as many rows as the lists hold
  pub part_asked :
      AnswersAsked (record { region = s; hints = hints; base = 0; start = start; room = room_of row_space col_space (length hints) }) (part_answer s hints start)
  unfolding part_answer
  part_asked = rw (length-replicate {0} {A = ℕ} row_space 0, length-replicate {0} {A = ℕ} col_space 0) at (answers_asked (scan_asked s hints 0 start (replicate row_space 0) (replicate col_space 0)))

  module _ (rows cols : List ℕ) (lr : length rows ≡ row_space) (lc : length cols ≡ col_space) (x : ScanOutcome) (p : ScansRegion (scan_asked s hints 0 start rows cols) x) where
    pub part_answer_lem : x.answer ≡ part_answer s hints start
    unfolding part_answer
    part_answer_lem =
        p.answer ∙ same_answer s hints 0 start rows cols (replicate row_space 0) (replicate col_space 0) (lr ∙ sym (length-replicate {0} {A = ℕ} row_space 0)) (lc ∙ sym (length-replicate {0} {A = ℕ} col_space 0))

    pub part_text_lem : (n : ℕ) → n ≡ written_of x.answer → rows_text x.rows x.cols (length hints) n ≡ part_text (scan_asked s hints 0 start rows cols)
    unfolding part_text
    part_text_lem n en = rw (p.rows, p.entries, en, part_answer_lem)

    pub part_room : (n : ℕ) → n ≡ written_of x.answer → n ≤ room_of row_space col_space (length hints)
    part_room n en = rw (en, part_answer_lem) part_bounded.rows_fit

  -- a scan that is refused has no rows, and so no text
  pub part_none : (rows cols : List ℕ) (r : Refusal) → part_answer s hints start ≡ Err r → part_text (scan_asked s hints 0 start rows cols) ≡ []
  unfolding part_text rows_text
  part_none rows cols r e = rw e
