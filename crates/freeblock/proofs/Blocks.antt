-- Carving a payload, a block, and the blocks of a page one after the other.
-- Assumes nothing.
use Rattle.std.specs.Prelude.{None}
use Prim.Native.Nat.{ℕ, ◌+◌, ◌-◌, ◌≤◌, ◌<◌}
use mathlib.Core.Path.{◌≡◌, sym, ◌∙◌}
use mathlib.Core.Bool.{false}
use mathlib.Core.List.{List, [], ◌∷◌, ◌++◌, append-nil, append_assoc}
use native.Mathlib.Nat.{add-zero}
use native.Mathlib.Omega.{arith}
use lib.ListN.{length, take, drop, length-take, length-drop}
use Rattle.attempt.specs.Inner.{found_at}
use Rattle.attempt.specs.declared.inner.Find.{Find}
use Rattle.freeblock.specs.Freeblock.{nowhere, first_start, first_hits, block_hits, blocks_hits, chain_ends, blocks_from, freeblocks, page_hits}
use Rattle.freeblock.specs.Inner.{StartIs}
use Rattle.freeblock.proofs.Chaining.{blocks_some, blocks_end, ends_low, ends_past, Lies, lies}
use Rattle.hit.proofs.Laws.{ready_part}
use Rattle.hit.specs.Hit.{hit_of}
use Rattle.hit.specs.Inner.{Ready}
use Rattle.hit.specs.declared.inner.Origin.{Origin}
use Rattle.hit.specs.declared.inner.Spot.{Spot}
use Rattle.page.specs.Page.{first_freeblock, block_next, block_size, Block, payload_of}
use Rattle.record.proofs.Numbers.{by_order}
use Rattle.sheet.specs.Confidence.{share, freed_share}
use Rattle.sheet.specs.declared.inner.Sheet.{Sheet}
use Rattle.sheet.specs.declared.row.Source.TheVariants.{Freelist}
use Rattle.sheet.proofs.Sheets.{adds_none, adds_more, adds_stop}
use Rattle.sheet.specs.Hits.{Hit}
use Rattle.sheet.specs.Inner.{on, over, Told, Adds}

-- ---- a payload
module _ (payload hints : List ℕ) (o : ℕ) (spot : Spot) (s : Sheet) (ready : Ready (o + length payload) (length hints) spot s) where
  abbrev hits : List Hit
  hits = first_hits spot (length hints) o (first_start payload hints)

  pub payload_none : first_start payload hints ≡ nowhere → Adds hits false s (on s.n) s
  payload_none e = rw e (adds_none s ready.space.fits)

  module _ (v : ℕ) (x : Find) (is : StartIs payload hints v x) where
    pub payload_ready : Ready (o + v + length (drop v payload)) (length hints) spot s
    payload_ready =
        let rest : length (drop v payload) ≡ length payload - v = length-drop v payload in
        ready_part (o + length payload) (o + v + length (drop v payload)) (length hints) spot s (omega (arith, is.inside)) ready

    pub payload_one : (origin : Origin) (r : Told) (s' : Sheet) → origin ≡ record { id = None; source = Freelist; confidence = freed_share (share x.matched (length hints)) }
        → Adds (hit_of spot (o + v + 0) (o + v) origin (found_at (drop v payload) 0 x) ∷ []) false s r s' → Adds hits false s r s'
    payload_one origin r s' e c = rw is.is (rw (add-zero (o + v), e) at c)

-- ---- a block
pub payload_is : (page : List ℕ) (at size : ℕ) → take (at + size - (at + 4)) (drop (at + 4) page) ≡ payload_of page (record { at = at; size = size })
payload_is page at size = let e : at + size - (at + 4) ≡ size - 4 = omega arith in rw e

pub payload_length : (page : List ℕ) (at size : ℕ) → 4 ≤ size → at + size ≤ length page → length (payload_of page (record { at = at; size = size })) ≡ size - 4
payload_length page at size h in' = simp (length-take, length-drop) (omega arith)

-- ---- the blocks of a page: rows of `done` were added to the first sheet, i blocks are carved, and the others come from `at` on
pub record Carving (page : List ℕ) (head : ℕ) (hints : List ℕ) (spot : Spot) (s₀ s : Sheet) (i at : ℕ) : Type 0 where
  pub done : List Hit
  pub fuel : ℕ
  pub seen : List ℕ
  pub added : Adds done false s₀ (on s.n) s
  pub counts : i + length (blocks_from fuel page head seen at) ≡ length (freeblocks page head)
  pub hits : done ++ blocks_hits page hints spot (blocks_from fuel page head seen at) ≡ page_hits page head hints spot

module _ (page : List ℕ) (head : ℕ) (hints : List ℕ) (spot : Spot) (s : Sheet) (fits : s.n ≤ s.room) where
  pub carving_start : (at : ℕ) → at ≡ first_freeblock page head → Carving page head hints spot s s 0 at
  unfolding page_hits freeblocks
  carving_start at f = record { done = []; fuel = length page; seen = []; added = adds_none s fits; counts = rw f (omega arith); hits = rw f }

  -- a header past the page has no chain
  pub carving_none : length page < head → Adds (page_hits page head hints spot) false s (on s.n) s
  unfolding page_hits freeblocks
  carving_none h = rw (none (first_freeblock page head)) (adds_none s fits)
    where
      none : (at : ℕ) → blocks_from (length page) page head [] at ≡ []
      none at = blocks_end page head (length page) [] at (sym (by_order at (head + 8) (λ lt. ends_low page head at lt) (λ ge. ends_past page head at ge (omega arith))))

module _ {page : List ℕ} {head : ℕ} {hints : List ℕ} {spot : Spot} {s₀ s : Sheet} {i at : ℕ} (w : Carving page head hints spot s₀ s i at) where
  pub carving_done : length (freeblocks page head) ≤ i → Adds (page_hits page head hints spot) false s₀ (on s.n) s
  carving_done z = rw (sym (append-nil w.done) ∙ ended (blocks_from w.fuel page head w.seen at) (omega (arith, w.counts)) w.hits) at w.added
    where
      ended : (bs : List Block) → length bs ≡ 0 → w.done ++ blocks_hits page hints spot bs ≡ page_hits page head hints spot
          → w.done ++ [] ≡ page_hits page head hints spot
      ended [] l e = e
      ended (b ∷ bs) l e = absurd (omega arith)

  module _ (some : i < length (freeblocks page head)) where
    next : (g : ℕ) × (chain_ends page head at ≡ false) × (blocks_from w.fuel page head w.seen at ≡ record { at = at; size = block_size page at } ∷ blocks_from g page head (at ∷ w.seen) (block_next page at))
    next = blocks_some page head w.fuel w.seen at (omega (arith, w.counts))

    pub carving_lies : Lies page head at
    carving_lies = lies page head at next.1

    abbrev found : List Hit
    found = block_hits page hints spot (record { at = at; size = block_size page at })

    abbrev later : List Hit
    later = blocks_hits page hints spot (blocks_from next.0 page head (at ∷ w.seen) (block_next page at))

    hits_are : (w.done ++ found) ++ later ≡ page_hits page head hints spot
    hits_are = append_assoc w.done found later ∙ rw next.2 at w.hits

    pub carving_on : (s' : Sheet) → Adds found false s (on s'.n) s' → Carving page head hints spot s₀ s' (i + 1) (block_next page at)
    carving_on s' x =
        let counts = rw next.2 at w.counts in
        record {
          done = w.done ++ found;
          fuel = next.0;
          seen = at ∷ w.seen;
          added = adds_more w.done found s₀ s s' false (on s'.n) w.added x;
          counts = omega arith;
          hits = hits_are;
        }

    pub carving_full : (s' : Sheet) → Adds found false s over s' → Adds (page_hits page head hints spot) false s₀ over s'
    carving_full s' x =
        let c = adds_more w.done found s₀ s s' false over w.added x in
        rw hits_are at (adds_stop (w.done ++ found) later s₀ s' false false c)
