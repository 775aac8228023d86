-- What a scan from 0 leaves (rule 4.17), of what it is asked: the sheet of the one list of its region, as many rows of it as there is room for.
-- Assumes nothing.
use Rattle.std.specs.Prelude.{Err, Ok}
use Prim.Native.Nat.{◌<◌}
use mathlib.Core.Path.{◌≡◌, refl, sym, ap, ◌∙◌}
use mathlib.Core.List.{List, [], ◌∷◌}
use native.Mathlib.Omega.{arith}
use lib.ListN.{length, take, drop, length-drop, drop_of_length-le}
use lib.Seq.{take_all}
use Rattle.scan.specs.Sheet.{Sheet, Asked, asked_checked, asked_run, run_sheet, empty_sheet, asked_sheet}
use Rattle.scanlaws.proofs.Folds.{sheet_placed}
use Rattle.scanlaws.proofs.Resuming.{run}
use Rattle.scanlaws.proofs.Room.{rows_fit}
use Rattle.scanlaws.proofs.ScanList.{the_only, only_list, roomed}
use Rattle.scanlaws.specs.Listed.{number_before, list_sheet, LeavesAll, LeavesFirst}
use Rattle.scanlaws.specs.Only.{Placed, Only}
use Rattle.sheet.proofs.Laws.{number_range, slice_fits}
use Rattle.sheet.specs.Refusal.{refusal_number, after}
use Rattle.sheet.specs.Refusal.{Checked}
use Rattle.sheet.specs.declared.refusal.Refusal.TheVariants.{NoRoom}

-- where a row found no room, it is refused with 9
some_left : (ps : List Placed) → 0 < length ps → number_before ps ≡ refusal_number NoRoom
some_left [] h = absurd (omega arith)
some_left (p ∷ ps) h = refl

-- a scan that answers 0 was refused by no check
done_passed : (q : Asked) → (asked_sheet q).number ≡ 0 → asked_checked q ≡ (Ok tt)
unfolding asked_sheet
done_passed q = go (asked_checked q)
  where
    go : (c : Checked) → (after empty_sheet c (run_sheet (length q.region) q.base (length q.hints) (asked_run q))).number ≡ 0 → c ≡ (Ok tt)
    go (Ok tt) z = refl
    go (Err r) z = absurd (omega (arith, z, number_range r))

module _ (q : Asked) (first : q.start ≡ 0) where
  -- THE LAW: of any list that has the properties
  pub sheet_listed : asked_checked q ≡ (Ok tt) → (ps : List Placed) → Only q.region q.hints ps → asked_sheet q ≡ list_sheet q (take q.room ps) (drop q.room ps)
  unfolding asked_sheet
  sheet_listed passed ps o =
      let t = run q.region q.hints q.room 0 in
      let is : asked_run q ≡ t = rw first refl in
      let rows = sheet_placed (length q.region) q.base (length q.hints) t in
      let l = only_list q.region q.hints ps o q.room in
      rw (passed, is, rows.0, rows.1, rows.2, l.0, l.1, l.2) refl

  -- THE LAWS, of a sheet that a scan leaves: with any room
  pub leaves_first : {x : Sheet} → x ≡ asked_sheet q → asked_checked q ≡ (Ok tt) → LeavesFirst q x
  leaves_first e passed =
      let only = the_only q.region q.hints (slice_fits (length q.region) q.hints q.base passed).few in
      let ps = only.list in
      let left = e ∙ sheet_listed passed ps only.has in
      record {
        only = only;
        left = left;
        enough = λ h. left ∙ rw (take_all q.room ps h, drop_of_length-le ps h) refl;
        less = λ h. ap (λ x. x.number) left ∙ some_left (drop q.room ps) (omega (arith, length-drop q.room ps));
        few = rows_fit q.region q.hints ps only.has;
      }

  -- and where it is done
  pub leaves_all : {x : Sheet} → x ≡ asked_sheet q → x.number ≡ 0 → LeavesAll q x
  leaves_all e z =
      let f = leaves_first e (done_passed q (sym (ap (λ x. x.number) e) ∙ z)) in
      record { only = f.only; left = f.enough (roomed q.room f.only.list (sym (ap (λ x. x.number) f.left) ∙ z)) }
