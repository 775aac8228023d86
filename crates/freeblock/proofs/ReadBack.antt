-- The columns of the rows in a page's freeblocks, read back over the slice in which the page lies: the values of each row, every one at its place.
-- Assumes nothing.
use Prim.Native.Nat.{ℕ, zero, suc, ◌+◌, ◌-◌, ◌≤◌, min}
use mathlib.Core.Path.{◌≡◌, refl}
use mathlib.Core.Bool.{Bool, true, false, cond, ◌||◌}
use mathlib.Core.List.{List, [], ◌∷◌}
use native.Mathlib.Nat.{add_assoc}
use native.Mathlib.Omega.{arith}
use lib.ListN.{length, drop}
use Rattle.attempt.specs.Attempt.{Tried, miss, hit, attempt_at}
use Rattle.freeblock.specs.Freeblock.{chain_ends, blocks_from, freeblocks, most_starts, first_or, first_from, first_start, first_hits, block_hits, blocks_hits, page_hits}
use Rattle.freeblock.specs.Values.{first_values, blocks_values, freed_values}
use Rattle.freeblock.proofs.Chaining.{Lies, lies}
use Rattle.hit.proofs.ReadBack.{found_reads}
use Rattle.hit.specs.declared.inner.Spot.{Spot}
use Rattle.page.specs.Page.{among, first_freeblock, block_next, block_size, Block, payload_of}
use Rattle.record.proofs.Shifts.{PartOf, part_taken, part_rest, part_within}
use Rattle.sheet.proofs.ReadBack.{AllFit, fit_append}

-- ---- a payload that begins at `from` in its page
module _ (slice : List ℕ) (spot : Spot) (from : ℕ) (payload hints : List ℕ) (part : PartOf (spot.start + from) payload slice) where
  abbrev StartsRead : ℕ → ℕ → Type 0
  StartsRead k v =
      AllFit slice (length hints) (first_hits spot (length hints) from (first_from k payload hints v)) (first_values (spot.start + from) payload (first_from k payload hints v))

  starts_read : (k v : ℕ) → v + k ≤ length payload → StartsRead k v
  unfolding first_from
  starts_read zero v h = tt
  starts_read (suc k) v h = go (attempt_at (drop v payload) hints 0) refl (starts_read k (suc v) (omega arith))
    where
      go : (t : Tried) → attempt_at (drop v payload) hints 0 ≡ t → StartsRead k (suc v)
          → AllFit slice (length hints) (first_hits spot (length hints) from (first_or v (first_from k payload hints (suc v)) t))
          (first_values (spot.start + from) payload (first_or v (first_from k payload hints (suc v)) t))
      go miss e rest = rest
      go (hit x) e rest = (rw (← add_assoc spot.start from v) (found_reads (part_within (part_rest payload v (omega arith)) part) hints 0 x e _), tt)

  -- THE LAW: its row, where there is one
  pub start_reads : AllFit slice (length hints) (first_hits spot (length hints) from (first_start payload hints)) (first_values (spot.start + from) payload (first_start payload hints))
  unfolding first_start
  start_reads = starts_read (min most_starts (length payload)) 0 (omega arith)

-- ---- a page
module _ (slice : List ℕ) (spot : Spot) (page : List ℕ) (head : ℕ) (hints : List ℕ) (part : PartOf spot.start page slice) where
  block_reads : (at : ℕ) → Lies page head at
      → AllFit slice (length hints) (block_hits page hints spot (record { at = at; size = block_size page at }))
      (first_values (spot.start + (at + 4)) (payload_of page (record { at = at; size = block_size page at })) (first_start (payload_of page (record { at = at; size = block_size page at })) hints))
  unfolding block_hits
  block_reads at l =
      start_reads slice spot (at + 4) (payload_of page (record { at = at; size = block_size page at })) hints
      (part_within (part_taken page (at + 4) (block_size page at - 4) (omega (arith, l.some, l.inside))) part)

  abbrev BlocksRead : List Block → Type 0
  BlocksRead bs = AllFit slice (length hints) (blocks_hits page hints spot bs) (blocks_values spot.start page hints bs)

  steps_read : (f : ℕ) (seen : List ℕ) (at : ℕ) → BlocksRead (blocks_from f page head seen at)
  unfolding blocks_from
  steps_read zero seen at = tt
  steps_read (suc f) seen at = go (chain_ends page head at) (among at seen) refl (steps_read f (at ∷ seen) (block_next page at))
    where
      go : (a b : Bool) → chain_ends page head at ≡ a → BlocksRead (blocks_from f page head (at ∷ seen) (block_next page at))
          → BlocksRead (cond (a || b) [] (record { at = at; size = block_size page at } ∷ blocks_from f page head (at ∷ seen) (block_next page at)))
      go true b e rest = tt
      go false true e rest = tt
      go false false e rest =
          fit_append slice (length hints) (block_hits page hints spot (record { at = at; size = block_size page at }))
          (blocks_hits page hints spot (blocks_from f page head (at ∷ seen) (block_next page at)))
          (first_values (spot.start + (at + 4)) (payload_of page (record { at = at; size = block_size page at })) (first_start (payload_of page (record { at = at; size = block_size page at })) hints))
          (blocks_values spot.start page hints (blocks_from f page head (at ∷ seen) (block_next page at)))
          (block_reads at (lies page head at e)) rest

  -- THE LAW: the rows of its freeblocks
  pub freed_reads : AllFit slice (length hints) (page_hits page head hints spot) (freed_values spot.start page head hints)
  unfolding page_hits freeblocks freed_values
  freed_reads = steps_read (length page) [] (first_freeblock page head)
