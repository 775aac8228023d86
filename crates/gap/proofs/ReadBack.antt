-- The columns of the rows in a page's free space, read back over the slice in which the page lies: the values of each row, every one at its place.
-- Assumes nothing.
use Prim.Native.Nat.{ℕ, zero, suc, ◌+◌, ◌-◌, ◌≤◌, ◌<◌}
use mathlib.Core.Path.{◌≡◌, refl}
use mathlib.Core.Bool.{Bool, true, false, cond, ◌&&◌, ◌||◌}
use mathlib.Core.List.{List, [], ◌∷◌, ◌++◌}
use native.Mathlib.Omega.{arith}
use borrow.Author.Tests.{leb-true, ltb-true, ltb-false}
use lib.Dec.{ltb, leb}
use lib.ListN.{length}
use Rattle.attempt.specs.Attempt.{Tried, miss, hit, attempt_at}
use Rattle.cells.proofs.ReadBack.{payload_reads}
use Rattle.cells.specs.Cells.{payload_hits}
use Rattle.cells.specs.Values.{payload_values, in_slice}
use Rattle.gap.specs.Gap.{gap_from, gap_to, has_gap, gap_of, run_hits, region_hits, gap_hits, chain_ends, block_then, chain_from, chain, blocks_hits, page_hits}
use Rattle.gap.specs.Values.{rows_values, region_values, gap_values, blocks_values, page_values}
use Rattle.hit.proofs.ReadBack.{found_reads}
use Rattle.hit.specs.declared.inner.Spot.{Spot}
use Rattle.page.specs.Page.{Block, payload_of, block_next, block_size}
use Rattle.rebuild.specs.Header.{most_by}
use Rattle.rebuild.specs.declared.rebuilding.Rebuilding.{Rebuilding}
use Rattle.record.proofs.Numbers.{by_order}
use Rattle.record.proofs.Shifts.{PartOf, part_taken, part_within}
use Rattle.scan.proofs.Laws.{scan_none, scan_missed, scan_found, scan_full, scan_end}
use Rattle.scan.specs.Scan.{scan_from}
use Rattle.sheet.proofs.ReadBack.{AllFit, fit_append}

-- ---- a region that begins at `from` in its page
module _ (slice : List ℕ) (spot : Spot) (from : ℕ) (s hints : List ℕ) (part : PartOf (spot.start + from) s slice) where
  abbrev RunRead : ℕ → ℕ → ℕ → Type 0
  RunRead f o n =
      AllFit slice (length hints) (run_hits spot (length hints) from (scan_from f s hints (length s) o n)) (in_slice (spot.start + from) (rows_values s (scan_from f s hints (length s) o n)))

  run_reads : (f o n : ℕ) → RunRead f o n
  run_reads zero o n = rw (scan_none s hints (length s) o n) tt
  run_reads (suc f) o n =
      by_order o (length s - 2) (λ lt. go lt (attempt_at s hints o) refl (λ o' n'. run_reads f o' n')) (λ ge. rw (scan_end (suc f) s hints (length s) o n ge) tt)
    where
      go : o < length s - 2 → (t : Tried) → attempt_at s hints o ≡ t → ((o' n' : ℕ) → RunRead f o' n') → RunRead (suc f) o n
      go lt miss e rest = rw (scan_missed f s hints (length s) o n lt e) (rest (o + 1) n)
      go lt (hit x) e rest =
          by_order n (length s)
          (λ in'. rw (scan_found f s hints (length s) o n lt x e in') (found_reads part hints o x e _, rest (o + x.consumed) (n + 1)))
          (λ out. rw (scan_full f s hints (length s) o n lt x e out) tt)

  -- THE LAW: the rows of a region
  pub region_reads : AllFit slice (length hints) (region_hits spot from s hints) (in_slice (spot.start + from) (region_values s hints))
  unfolding region_hits region_values
  region_reads = run_reads (length s) 0 0

-- ---- a page

-- the rows of each of its blocks read over the slice
abbrev pub BlocksRead : Rebuilding → List ℕ → Spot → List ℕ → List ℕ → List Block → Type 0
BlocksRead how slice spot page hints [] = Unit
BlocksRead how slice spot page hints (b ∷ bs) =
    AllFit slice (length hints) (payload_hits how spot (b.at + 4) (payload_of page b) hints) (in_slice (spot.start + (b.at + 4)) (payload_values how (payload_of page b) hints))
    × BlocksRead how slice spot page hints bs

module _ (slice : List ℕ) (spot : Spot) (page hints : List ℕ) (part : PartOf spot.start page slice) where
  -- THE LAW: the rows of its gap
  pub gap_reads : (head : ℕ) → AllFit slice (length hints) (gap_hits page head hints spot) (in_slice (spot.start + gap_from page head) (gap_values page head hints))
  unfolding gap_hits gap_values has_gap
  gap_reads head = go (ltb (gap_from page head) (gap_to page head)) (leb (gap_to page head) (length page)) refl refl
    where
      go : (a b : Bool) → ltb (gap_from page head) (gap_to page head) ≡ a → leb (gap_to page head) (length page) ≡ b
          → AllFit slice (length hints) (cond (a && b) (region_hits spot (gap_from page head) (gap_of page head) hints) [])
          (in_slice (spot.start + gap_from page head) (cond (a && b) (region_values (gap_of page head) hints) []))
      go true true e f =
          let lt = ltb-true (gap_from page head) (gap_to page head) e in
          let le = leb-true (gap_to page head) (length page) f in
          region_reads slice spot (gap_from page head) (gap_of page head) hints (part_within (part_taken page (gap_from page head) (gap_to page head - gap_from page head) (omega arith)) part)
      go true false e f = tt
      go false b e f = tt

  module _ (how : Rebuilding) (some : 1 ≤ length hints) (few : length hints ≤ most_by how) where
    then_reads : (at : ℕ) (rest : List Block) → BlocksRead how slice spot page hints rest → BlocksRead how slice spot page hints (block_then page at rest)
    then_reads at rest r = go (ltb (block_size page at) 4) (ltb (length page) (at + block_size page at)) refl refl
      where
        go : (a b : Bool) → ltb (block_size page at) 4 ≡ a → ltb (length page) (at + block_size page at) ≡ b
            → BlocksRead how slice spot page hints (cond (a || b) rest (record { at = at; size = block_size page at } ∷ rest))
        go true b e f = r
        go false true e f = r
        go false false e f =
            let four = ltb-false (block_size page at) 4 e in
            let inside = ltb-false (length page) (at + block_size page at) f in
            (payload_reads slice spot (at + 4) _ hints (part_within (part_taken page (at + 4) (block_size page at - 4) (omega arith)) part) how some few, r)

    steps_read : (k at : ℕ) → BlocksRead how slice spot page hints (chain_from k page at)
    unfolding chain_from
    steps_read zero at = tt
    steps_read (suc k) at = go (chain_ends page at) (leb (block_next page at) at) (steps_read k (block_next page at))
      where
        go : (a b : Bool) → BlocksRead how slice spot page hints (chain_from k page (block_next page at)) → BlocksRead how slice spot page hints (cond a [] (block_then page at (cond b [] (chain_from k page (block_next page at)))))
        go true b rest = tt
        go false true rest = then_reads at [] tt
        go false false rest = then_reads at (chain_from k page (block_next page at)) rest

    -- THE LAW: and those of the blocks of its chain
    pub blocks_read : (head : ℕ) → BlocksRead how slice spot page hints (chain page head)
    unfolding chain
    blocks_read head = steps_read _ _

    all_blocks : (bs : List Block) → BlocksRead how slice spot page hints bs → AllFit slice (length hints) (blocks_hits how page hints spot bs) (blocks_values how spot.start page hints bs)
    all_blocks [] r = tt
    all_blocks (b ∷ bs) r =
        fit_append slice (length hints) (payload_hits how spot (b.at + 4) (payload_of page b) hints) (blocks_hits how page hints spot bs)
        (in_slice (spot.start + (b.at + 4)) (payload_values how (payload_of page b) hints)) (blocks_values how spot.start page hints bs) r.0 (all_blocks bs r.1)

    -- THE LAW: so all rows of the page
    pub page_reads : (head : ℕ) → AllFit slice (length hints) (page_hits how page head hints spot) (page_values how spot.start page head hints)
    unfolding page_hits page_values
    page_reads head = go (ltb (length page) (head + 8))
      where
        go : (b : Bool)
            → AllFit slice (length hints) (cond b [] (gap_hits page head hints spot ++ blocks_hits how page hints spot (chain page head)))
            (cond b [] (in_slice (spot.start + gap_from page head) (gap_values page head hints) ++ blocks_values how spot.start page hints (chain page head)))
        go true = tt
        go false =
            fit_append slice (length hints) (gap_hits page head hints spot) (blocks_hits how page hints spot (chain page head))
            (in_slice (spot.start + gap_from page head) (gap_values page head hints)) (blocks_values how spot.start page hints (chain page head)) (gap_reads head)
            (all_blocks (chain page head) (blocks_read head))
