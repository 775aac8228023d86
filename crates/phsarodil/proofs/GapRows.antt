-- Demand 3 of a page's gap (rule 11.12), of the C calls with a code that names a way: at the front of their lists stand the gap's rows, and pages whose
-- gaps are alike have the same ones there, whatever else they hold.
-- Assumes nothing.
use Rattle.std.specs.Prelude.{Some}
use mathlib.Core.Path.{◌≡◌, sym, ap, ◌∙◌}
use contract.Lifetimes.{Lfts}
use denote.Triple.Clauses.{AtExit}
use borrow.Fn.Kinds.{Dens, res_t, ended_of}
use lib.ListN.{length}
use Rattle.carving.specs.Calls.{SliceAsked, slice_asked, NumberedAsked, numbered_asked}
use Rattle.carving.specs.declared.inner.Carving.TheVariants.{Gaps}
use Rattle.gaplaws.proofs.Asking.{slice_same, numbered_same, slice_left, numbered_left}
use Rattle.gaplaws.specs.GapSheet.{GapSheet, front_of, slice_gap, AlikeSlices, numbered_gap, AlikeNumbered}
use Rattle.phsarodil.specs.Returns.{filled_rows}
use Rattle.phsarodil.proofs.gaps.phs_scan_page_gap.Kinds as page-kinds
use Rattle.phsarodil.proofs.gaps.phs_scan_page_gap.Reads as phs-scan-page-gap
use Rattle.phsarodil.proofs.gaps.phs_scan_single_page_gap.Kinds as slice-kinds
use Rattle.phsarodil.proofs.gaps.phs_scan_single_page_gap.Reads as phs-scan-single-page-gap
use Rattle.rebuild.specs.Ways.{named}
use Rattle.rebuild.specs.declared.rebuilding.Rebuilding.{Rebuilding}

module _ (k : Lfts 5) (how : Rebuilding) where
  -- ---- `phs_scan_single_page_gap`
  abbrev pub slice_question : Dens k slice-kinds.ps → SliceAsked
  slice_question a =
      slice_asked (Gaps how) a.1.0.now a.1.1.0 a.1.1.1.0 a.1.1.1.1.0.now a.1.1.1.1.1.0.now a.1.1.1.1.1.1.0.now

  abbrev pub slice_front : Dens k slice-kinds.ps → AtExit (ended_of 5 slice-kinds.ps slice-kinds.r) k → GapSheet
  slice_front a s =
      front_of (length a.1.1.1.1.0.now) (slice_gap (slice_question a)).written s.1.1.1.1.1.0.now s.1.1.1.1.1.1.0.now

  pub slice_gap_is : (a : Dens k slice-kinds.ps) → named a.0 ≡ Some how → (x : (res_t slice-kinds.r k).Denot) (s : AtExit (ended_of 5 slice-kinds.ps slice-kinds.r) k)
      → phs-scan-single-page-gap.Post k a x s → slice_front a s ≡ slice_gap (slice_question a)
  unfolding filled_rows
  slice_gap_is a n x s p =
      let q = slice_question a in
      let told = rw n at p in
      slice_left how q.page q.head q.base q.hints q.rows q.cols (ap (λ y. y.rows) told) (ap (λ y. y.cols) told)

  pub slice_gives_away : (a b : Dens k slice-kinds.ps) → named a.0 ≡ Some how → named b.0 ≡ Some how → AlikeSlices (slice_question a) (slice_question b)
      → (x y : (res_t slice-kinds.r k).Denot) (s t : AtExit (ended_of 5 slice-kinds.ps slice-kinds.r) k)
      → phs-scan-single-page-gap.Post k a x s → phs-scan-single-page-gap.Post k b y t → slice_front a s ≡ slice_front b t
  slice_gives_away a b n m e x y s t p q = slice_gap_is a n x s p ∙ slice_same (slice_question a) (slice_question b) e ∙ sym (slice_gap_is b m y t q)

  -- ---- `phs_scan_page_gap`
  abbrev pub page_question : Dens k page-kinds.ps → NumberedAsked
  page_question a =
      numbered_asked (Gaps how) a.1.0.now a.1.1.0 a.1.1.1.0 a.1.1.1.1.0.now a.1.1.1.1.1.0.now a.1.1.1.1.1.1.0.now

  abbrev pub page_front : Dens k page-kinds.ps → AtExit (ended_of 5 page-kinds.ps page-kinds.r) k → GapSheet
  page_front a s =
      front_of (length a.1.1.1.1.0.now) (numbered_gap (page_question a)).written s.1.1.1.1.1.0.now s.1.1.1.1.1.1.0.now

  pub page_gap_is : (a : Dens k page-kinds.ps) → named a.0 ≡ Some how → (x : (res_t page-kinds.r k).Denot) (s : AtExit (ended_of 5 page-kinds.ps page-kinds.r) k)
      → phs-scan-page-gap.Post k a x s → page_front a s ≡ numbered_gap (page_question a)
  unfolding filled_rows
  page_gap_is a n x s p =
      let q = page_question a in
      let told = rw n at p in
      numbered_left how q.db q.size q.page q.hints q.rows q.cols (ap (λ y. y.rows) told) (ap (λ y. y.cols) told)

  pub page_gives_away : (a b : Dens k page-kinds.ps) → named a.0 ≡ Some how → named b.0 ≡ Some how → AlikeNumbered (page_question a) (page_question b)
      → (x y : (res_t page-kinds.r k).Denot) (s t : AtExit (ended_of 5 page-kinds.ps page-kinds.r) k)
      → phs-scan-page-gap.Post k a x s → phs-scan-page-gap.Post k b y t → page_front a s ≡ page_front b t
  page_gives_away a b n m e x y s t p q = page_gap_is a n x s p ∙ numbered_same (page_question a) (page_question b) e ∙ sym (page_gap_is b m y t q)
