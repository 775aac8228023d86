-- What a scan promises, of its two ways out: a check refused it, or its work is done. The paper's numbers of an answer are those of its rules.
-- Assumes nothing.
use Rattle.std.specs.Prelude.{Err, Ok}
use Prim.Native.Nat.{ℕ}
use mathlib.Core.Path.{◌≡◌, refl, sym, ap, ◌∙◌}
use mathlib.Core.List.{List}
use lib.ListN.{length}
use Rattle.scan.specs.Inner.{Ran}
use Rattle.scan.specs.declared.schema_sig.Scanned.{Scanned}
use Rattle.scan.specs.Scan.{Run, through, no_room, missed, found, row_count, finished_places, end_of, answer_of, run_number, run_place, number_of, written_of, place_of, read_of, ScanAsked, call_checked, call_room, scan_run, scan_answer, scan_rows, scan_cols, scan_number, scan_written, scan_place, scan_count, ScanOutcome, scan_outcome, ScansRegion}
use Rattle.sheet.specs.Refusal.{Checked, refusal_number, after, after_or0}
use Rattle.sheet.specs.declared.refusal.Refusal.{Refusal}

module _ (len rows read : ℕ) where
  end_is : (t : Run) → let a = Ok (end_of len rows read t) in
      (number_of a ≡ run_number t) × (written_of a ≡ rows) × (place_of a ≡ run_place len t) × (read_of a ≡ read)
  end_is through = (refl, refl, refl, refl)
  end_is (no_room o) = (refl, refl, refl, refl)
  end_is (missed o t) = end_is t
  end_is (found o x t) = end_is t

pub scan_numbers : (s : List ℕ) (c : Checked) (t : Run) → let a = after Err c (Ok (answer_of s t)) in
    (number_of a ≡ after refusal_number c (run_number t)) × (written_of a ≡ after_or0 c (row_count t))
    × (place_of a ≡ after_or0 c (run_place (length s) t)) × (read_of a ≡ after_or0 c (length (finished_places s t)))
scan_numbers s (Ok tt) t = end_is (length s) (row_count t) (length (finished_places s t)) t
scan_numbers s (Err r) t = (refl, refl, refl, refl)

module _ (a : ScanAsked) where
  scan_promised : (x : ScanOutcome) → x.answer ≡ scan_answer a → x.rows ≡ scan_rows a → x.cols ≡ scan_cols a → ScansRegion a x
  unfolding scan_answer scan_number scan_written scan_place scan_count
  scan_promised x e f g =
      let n = scan_numbers a.region (call_checked a) (scan_run a) in
      record {
        answer = e;
        number = ap number_of e ∙ n.0;
        written = ap written_of e ∙ n.1;
        place = ap place_of e ∙ n.2;
        count = ap read_of e ∙ n.3;
        rows = f;
        entries = g;
      }

  pub scan_refused : (r : Refusal) → call_checked a ≡ Err r → ScansRegion a (scan_outcome (Err r) a.rows a.cols)
  unfolding scan_answer scan_rows scan_cols
  scan_refused r e = scan_promised (scan_outcome (Err r) a.rows a.cols) (rw e) (rw e) (rw e)

  pub scan_done : (x : ScanOutcome) → call_checked a ≡ (Ok tt) → Ran a.region a.hints a.base a.start (call_room a) a.rows a.cols x → ScansRegion a x
  unfolding scan_answer scan_rows scan_cols
  scan_done x e d = scan_promised x (rw e d.answer) (rw e d.rows_are) (rw e d.cols_are)

-- of a scan over the lists that the call is lent
pub ran_asked : (a : ScanAsked) (r : Scanned) (room : ℕ) (rows cols rows' cols' : List ℕ) → call_checked a ≡ Ok tt → room ≡ call_room a
    → Ran a.region a.hints a.base a.start room a.rows a.cols (scan_outcome (Ok r) rows cols) → rows' ≡ rows → cols' ≡ cols → ScansRegion a (scan_outcome (Ok r) rows' cols')
ran_asked a r room rows cols rows' cols' k e x p q = rw (p, q) (scan_done a (scan_outcome (Ok r) rows cols) k (rw e at x))

-- and they fix all that it leaves
pub scan_fixed : (a : ScanAsked) (x y : ScanOutcome) → ScansRegion a x → ScansRegion a y → x ≡ y
scan_fixed a x y p q = same (p.answer ∙ sym q.answer) (p.rows ∙ sym q.rows) (p.entries ∙ sym q.entries)
  where
    same : x.answer ≡ y.answer → x.rows ≡ y.rows → x.cols ≡ y.cols → x ≡ y
    same e f g = rw (e, f, g)
