-- Demand 3 of a page's gap (rule 11.12), of the public calls: at the front of their lists stand the gap's rows, and pages whose gaps are alike have the
-- same ones there, whatever else they hold.
-- Assumes nothing.
use mathlib.Core.Path.{◌≡◌, sym, ◌∙◌}
use contract.Lifetimes.{Lfts}
use denote.Triple.Clauses.{AtExit}
use borrow.Fn.Kinds.{Dens, res_t, ended_of}
use lib.ListN.{length}
use Rattle.carving.proofs.gaps.scan_page_gap.Kinds as page-kinds
use Rattle.carving.proofs.gaps.scan_page_gap.Reads as scan-page-gap
use Rattle.carving.proofs.gaps.scan_single_page_gap.Kinds as slice-kinds
use Rattle.carving.proofs.gaps.scan_single_page_gap.Reads as scan-single-page-gap
use Rattle.carving.specs.Calls.{SliceAsked, slice_asked, NumberedAsked, numbered_asked}
use Rattle.carving.specs.declared.inner.Carving.TheVariants.{Gaps}
use Rattle.gaplaws.proofs.Asking.{slice_same, numbered_same, slice_left, numbered_left}
use Rattle.gaplaws.specs.GapSheet.{GapSheet, front_of, slice_gap, AlikeSlices, numbered_gap, AlikeNumbered}

module _ (k : Lfts 4) where
  -- ---- `scan_single_page_gap`
  abbrev pub slice_question : Dens k slice-kinds.ps → SliceAsked
  slice_question a =
      slice_asked (Gaps a.0) a.1.0.now a.1.1.0 a.1.1.1.0 a.1.1.1.1.0.now a.1.1.1.1.1.0.now a.1.1.1.1.1.1.0.now

  -- as many rows at the front of the lists as the gap has, and there is room for
  abbrev pub slice_front : Dens k slice-kinds.ps → AtExit (ended_of 4 slice-kinds.ps slice-kinds.r) k → GapSheet
  slice_front a s =
      front_of (length a.1.1.1.1.0.now) (slice_gap (slice_question a)).written s.1.1.1.1.1.0.now s.1.1.1.1.1.1.0.now

  -- THE LAW: they are the gap's
  pub slice_gap_is : (a : Dens k slice-kinds.ps) (x : (res_t slice-kinds.r k).Denot) (s : AtExit (ended_of 4 slice-kinds.ps slice-kinds.r) k)
      → scan-single-page-gap.Post k a x s → slice_front a s ≡ slice_gap (slice_question a)
  slice_gap_is a x s p = let q = slice_question a in slice_left a.0 q.page q.head q.base q.hints q.rows q.cols p.rows p.entries

  -- THE LAW: and the same of pages whose gaps are alike
  pub slice_gives_away : (a b : Dens k slice-kinds.ps) → AlikeSlices (slice_question a) (slice_question b)
      → (x y : (res_t slice-kinds.r k).Denot) (s t : AtExit (ended_of 4 slice-kinds.ps slice-kinds.r) k)
      → scan-single-page-gap.Post k a x s → scan-single-page-gap.Post k b y t → slice_front a s ≡ slice_front b t
  slice_gives_away a b e x y s t p q = slice_gap_is a x s p ∙ slice_same (slice_question a) (slice_question b) e ∙ sym (slice_gap_is b y t q)

  -- ---- `scan_page_gap`
  abbrev pub page_question : Dens k page-kinds.ps → NumberedAsked
  page_question a =
      numbered_asked (Gaps a.0) a.1.0.now a.1.1.0 a.1.1.1.0 a.1.1.1.1.0.now a.1.1.1.1.1.0.now a.1.1.1.1.1.1.0.now

  abbrev pub page_front : Dens k page-kinds.ps → AtExit (ended_of 4 page-kinds.ps page-kinds.r) k → GapSheet
  page_front a s =
      front_of (length a.1.1.1.1.0.now) (numbered_gap (page_question a)).written s.1.1.1.1.1.0.now s.1.1.1.1.1.1.0.now

  -- THE LAWS, of a page by its number
  pub page_gap_is : (a : Dens k page-kinds.ps) (x : (res_t page-kinds.r k).Denot) (s : AtExit (ended_of 4 page-kinds.ps page-kinds.r) k)
      → scan-page-gap.Post k a x s → page_front a s ≡ numbered_gap (page_question a)
  page_gap_is a x s p = let q = page_question a in numbered_left a.0 q.db q.size q.page q.hints q.rows q.cols p.rows p.entries

  pub page_gives_away : (a b : Dens k page-kinds.ps) → AlikeNumbered (page_question a) (page_question b)
      → (x y : (res_t page-kinds.r k).Denot) (s t : AtExit (ended_of 4 page-kinds.ps page-kinds.r) k)
      → scan-page-gap.Post k a x s → scan-page-gap.Post k b y t → page_front a s ≡ page_front b t
  page_gives_away a b e x y s t p q = page_gap_is a x s p ∙ numbered_same (page_question a) (page_question b) e ∙ sym (page_gap_is b y t q)
