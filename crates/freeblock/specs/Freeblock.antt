-- The freeblocks of a page, and the rows that are carved out of them (rules 10.1 to 10.4).
-- Assumes nothing.
use Rattle.std.specs.Prelude.{ℕ, zero, suc, ◌+◌, min, Bool, cond, ◌||◌, List, [], ◌∷◌, ◌++◌, ltb, eqb, length, drop, None}
use Rattle.attempt.specs.Attempt.{Found, Tried, miss, hit, attempt_at}
use Rattle.hit.specs.Hit.{hit_of}
use Rattle.hit.specs.declared.inner.Spot.{Spot}
use Rattle.page.specs.Page.{among, first_freeblock, block_next, block_size, Block, payload_of}
use Rattle.sheet.specs.Confidence.{share, freed_share}
use Rattle.sheet.specs.declared.row.Source.TheVariants.{Freelist}
use Rattle.sheet.specs.Hits.{Hit}

-- ---- the chain

-- Rule 10.1: the chain ends at 0, below the b-tree header + 8, past the page, and at a size below 4 or past the page
unfoldable pub chain_ends : List ℕ → ℕ → ℕ → Bool
chain_ends page head at =
    eqb at 0
    || (ltb at (head + 8) || (ltb (length page) (at + 4) || (ltb (block_size page at) 4 || ltb (length page) (at + block_size page at))))

-- Rule 10.1: and at a place that it has been to. The first argument bounds the blocks.
unfoldable pub blocks_from : ℕ → List ℕ → ℕ → List ℕ → ℕ → List Block
blocks_from zero page head seen at = []
blocks_from (suc f) page head seen at =
    cond (chain_ends page head at || among at seen) []
    (record { at = at; size = block_size page at } ∷ blocks_from f page head (at ∷ seen) (block_next page at))

-- Blocks stand at different places of the page, so its length bounds them, and no larger bound gives others (`proofs/Fuel.antt`).
unfoldable pub freeblocks : List ℕ → ℕ → List Block
freeblocks page head = blocks_from (length page) page head [] (first_freeblock page head)

-- ---- one block

-- Rule 10.2: so many starts are tried at the most
abbrev pub most_starts : ℕ
most_starts = 20

-- the first start at which an attempt on the payload's part succeeds, with what it finds
pub data First : Type 0 where
  nowhere : First
  start_at : ℕ → Found → First

abbrev pub first_or : ℕ → First → Tried → First
first_or v rest miss = rest
first_or v rest (hit x) = start_at v x

-- of so many starts, from v on
unfoldable pub first_from : ℕ → List ℕ → List ℕ → ℕ → First
first_from zero payload hints v = nowhere
first_from (suc k) payload hints v = first_or v (first_from k payload hints (suc v)) (attempt_at (drop v payload) hints 0)

unfoldable pub first_start : List ℕ → List ℕ → First
first_start payload hints = first_from (min most_starts (length payload)) payload hints 0

-- Rules 10.3 and 5.4: the row that is found at the place o of a page
abbrev pub hit_at : Spot → ℕ → ℕ → Found → Hit
hit_at spot columns o x =
    hit_of spot o o (record { id = None; source = Freelist; confidence = freed_share (share x.matched columns) }) x

abbrev pub first_hits : Spot → ℕ → ℕ → First → List Hit
first_hits spot columns from nowhere = []
first_hits spot columns from (start_at v x) = hit_at spot columns (from + v) x ∷ []

unfoldable pub block_hits : List ℕ → List ℕ → Spot → Block → List Hit
block_hits page hints spot b = first_hits spot (length hints) (b.at + 4) (first_start (payload_of page b) hints)

-- ---- Rule 10.4: a page, block by block
abbrev pub blocks_hits : List ℕ → List ℕ → Spot → List Block → List Hit
blocks_hits page hints spot [] = []
blocks_hits page hints spot (b ∷ bs) = block_hits page hints spot b ++ blocks_hits page hints spot bs

unfoldable pub page_hits : List ℕ → ℕ → List ℕ → Spot → List Hit
page_hits page head hints spot = blocks_hits page hints spot (freeblocks page head)
