-- Demand 3 of a page's gap (rule 11.12), of what a call is asked: what it leaves at the front of its lists are the gap's rows, and they are the same
-- of pages whose gaps are alike.
-- Assumes nothing.
use Prim.Native.Nat.{ℕ}
use mathlib.Core.Path.{◌≡◌, refl}
use mathlib.Core.List.{List}
use lib.ListN.{length}
use Rattle.carving.specs.Calls.{hits_by, slice_spot, page_spot, leaf_hits, SliceAsked, slice_asked, slice_filling, NumberedAsked, numbered_asked, numbered_filling}
use Rattle.carving.specs.declared.inner.Carving.TheVariants.{Gaps}
use Rattle.gap.specs.Gap.{gap_hits}
use Rattle.gaplaws.proofs.Front.{behind, gap_first, gap_wide, front_left}
use Rattle.gaplaws.proofs.SameGap.{gap_same}
use Rattle.gaplaws.specs.GapSheet.{front_of, slice_gap, AlikeSlices, numbered_gap, AlikeNumbered}
use Rattle.page.specs.Page.{start_of, page_of, head_of}
use Rattle.rebuild.specs.declared.rebuilding.Rebuilding.{Rebuilding}
use Rattle.sheet.specs.Hits.{rows_left, entries_left}

-- ---- alike
pub slice_same : (a b : SliceAsked) → AlikeSlices a b → slice_gap a ≡ slice_gap b
slice_same a b e =
    rw (gap_same a.head a.hints a.page b.page e.gaps_alike (slice_spot a.base), e.room_same, e.how_same, e.head_same, e.base_same, e.hints_same, e.gaps_alike.length_same)
    refl

pub numbered_same : (a b : NumberedAsked) → AlikeNumbered a b → numbered_gap a ≡ numbered_gap b
numbered_same a b e =
    let spot = page_spot (start_of a.size a.page) 0 in
    rw (gap_same (head_of a.page) a.hints (page_of a.db a.size a.page) (page_of b.db b.size b.page) e.gaps_alike spot, e.room_same, e.how_same, e.length_same, e.size_same, e.page_same, e.hints_same)
    refl

-- ---- left, by a call that is asked for gaps
module _ (how : Rebuilding) where
  pub slice_left : (page : List ℕ) (head base : ℕ) (hints rows cols : List ℕ) {rows' cols' : List ℕ} →
      let q = slice_asked (Gaps how) page head base hints rows cols in
      rows' ≡ rows_left (slice_filling q) → cols' ≡ entries_left (slice_filling q) → front_of (length hints) (slice_gap q).written rows' cols' ≡ slice_gap q
  unfolding hits_by
  slice_left page head base hints rows cols =
      let spot = slice_spot base in
      front_left (slice_filling (slice_asked (Gaps how) page head base hints rows cols)) (gap_hits page head hints spot) (behind how page head hints spot)
      (gap_first how page head hints spot) (gap_wide page head hints spot)

  pub numbered_left : (db : List ℕ) (size p : ℕ) (hints rows cols : List ℕ) {rows' cols' : List ℕ} →
      let q = numbered_asked (Gaps how) db size p hints rows cols in
      rows' ≡ rows_left (numbered_filling q) → cols' ≡ entries_left (numbered_filling q) → front_of (length hints) (numbered_gap q).written rows' cols' ≡ numbered_gap q
  unfolding hits_by leaf_hits
  numbered_left db size p hints rows cols =
      let page = page_of db size p in
      let spot = page_spot (start_of size p) 0 in
      front_left (numbered_filling (numbered_asked (Gaps how) db size p hints rows cols)) (gap_hits page (head_of p) hints spot) (behind how page (head_of p) hints spot)
      (gap_first how page (head_of p) hints spot) (gap_wide page (head_of p) hints spot)
