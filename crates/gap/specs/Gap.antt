-- Rows in the free space of a page (rules 11.1 to 11.3 and 11.8): the gap before its content, then its freed blocks.
-- Assumes nothing.
use Rattle.std.specs.Prelude.{ℕ, zero, suc, ◌+◌, ◌-◌, ◌*◌, Bool, cond, ◌&&◌, ◌||◌, List, [], ◌∷◌, ◌++◌, ltb, leb, eqb, length, take, drop}
use Rattle.std.specs.Prelude.{None}
use Rattle.attempt.specs.Attempt.{Found}
use Rattle.cells.specs.Cells.{payload_hits}
use Rattle.hit.specs.Hit.{intra_page, hit_of}
use Rattle.hit.specs.declared.inner.Spot.{Spot}
use Rattle.page.specs.Page.{Block, payload_of, first_freeblock, cell_count, content_start, block_next, block_size}
use Rattle.rebuild.specs.declared.rebuilding.Rebuilding.{Rebuilding}
use Rattle.scan.specs.Scan.{Run, through, no_room, missed, found, scan_from}
use Rattle.sheet.specs.Confidence.{share}
use Rattle.sheet.specs.Hits.{Hit}

-- ---- the gap

-- Rule 11.1: it goes from the end of the pointers to the start of the content, where 0 stands for 65,536
abbrev pub gap_from : List ℕ → ℕ → ℕ
gap_from page head = head + 8 + 2 * cell_count page head

abbrev pub gap_to : List ℕ → ℕ → ℕ
gap_to page head = cond (eqb (content_start page head) 0) 65536 (content_start page head)

-- Rule 11.1: if the one is before the other, and that one in the page
unfoldable pub has_gap : List ℕ → ℕ → Bool
has_gap page head = ltb (gap_from page head) (gap_to page head) && leb (gap_to page head) (length page)

abbrev pub gap_of : List ℕ → ℕ → List ℕ
gap_of page head = take (gap_to page head - gap_from page head) (drop (gap_from page head) page)

-- Rule 11.2: the row at o of a region that begins at `from` in its page
abbrev pub region_hit : Spot → ℕ → ℕ → ℕ → Found → Hit
region_hit spot columns from o x = hit_of spot (from + o) from (intra_page None (share x.matched columns)) x

abbrev pub run_hits : Spot → ℕ → ℕ → Run → List Hit
run_hits spot columns from through = []
run_hits spot columns from (no_room o) = []
run_hits spot columns from (missed o t) = run_hits spot columns from t
run_hits spot columns from (found o x t) = region_hit spot columns from o x ∷ run_hits spot columns from t

-- Rule 11.2: a region is scanned by the scan's rule (4.8), with room for as many rows as it has bytes: each finds it (`roomy` of
-- `scanlaws`)
abbrev pub region_run : List ℕ → List ℕ → Run
region_run s hints = scan_from (length s) s hints (length s) 0 0

unfoldable pub region_hits : Spot → ℕ → List ℕ → List ℕ → List Hit
region_hits spot from s hints = run_hits spot (length hints) from (region_run s hints)

-- and so is the gap, if there is one
unfoldable pub gap_hits : List ℕ → ℕ → List ℕ → Spot → List Hit
gap_hits page head hints spot = cond (has_gap page head) (region_hits spot (gap_from page head) (gap_of page head) hints) []

-- ---- the chain

-- Rule 11.3: a block of a size below 4, or past the page, is left out
abbrev pub block_then : List ℕ → ℕ → List Block → List Block
block_then page at rest =
    cond (ltb (block_size page at) 4 || ltb (length page) (at + block_size page at)) rest
    (record { at = at; size = block_size page at } ∷ rest)

-- Rule 11.3: the chain ends at 0, and where a block's four bytes pass the page,
unfoldable pub chain_ends : List ℕ → ℕ → Bool
chain_ends page at = eqb at 0 || ltb (length page) (at + 4)

-- and at a next that is not larger, and after so many steps
unfoldable pub chain_from : ℕ → List ℕ → ℕ → List Block
chain_from zero page at = []
chain_from (suc k) page at =
    cond (chain_ends page at) [] (block_then page at (cond (leb (block_next page at) at) [] (chain_from k page (block_next page at))))

abbrev pub most_steps : ℕ
most_steps = 1024

unfoldable pub chain : List ℕ → ℕ → List Block
chain page head = chain_from most_steps page (first_freeblock page head)

-- ---- the page
abbrev pub blocks_hits : Rebuilding → List ℕ → List ℕ → Spot → List Block → List Hit
blocks_hits how page hints spot [] = []
blocks_hits how page hints spot (b ∷ bs) = payload_hits how spot (b.at + 4) (payload_of page b) hints ++ blocks_hits how page hints spot bs

-- Rule 11.8: a page that ends in its header has nothing
unfoldable pub page_hits : Rebuilding → List ℕ → ℕ → List ℕ → Spot → List Hit
page_hits how page head hints spot =
    cond (ltb (length page) (head + 8)) [] (gap_hits page head hints spot ++ blocks_hits how page hints spot (chain page head))
