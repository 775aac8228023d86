-- The chain of freed blocks, place by place.
-- Assumes nothing.
use Prim.Native.Nat.{ℕ, zero, suc, ◌+◌, ◌-◌, ◌≤◌, ◌<◌}
use mathlib.Core.Path.{◌≡◌, refl, sym, ap, ◌∙◌}
use mathlib.Core.Bool.{Bool, true, false, cond, ◌||◌}
use mathlib.Core.List.{List, [], ◌∷◌, ◌++◌, append-nil}
use native.Mathlib.Nat.{suc-sub-suc, sub-zero}
use native.Mathlib.Omega.{arith}
use borrow.Author.Tests.{eq-eqb, ne_eqb, le-ltb, lt-ltb, ltb-false}
use lib.Dec.{leb, ltb, eqb}
use lib.ListN.{length, take, drop}
use Rattle.cells.specs.Cells.{payload_hits}
use Rattle.gap.specs.Gap.{block_then, chain_ends, chain_from, chain, most_steps, blocks_hits}
use Rattle.gap.specs.Inner.{larger}
use Rattle.hit.specs.declared.inner.Spot.{Spot}
use Rattle.page.specs.Page.{Block, payload_of, first_freeblock, block_next, block_size}
use Rattle.rebuild.specs.declared.rebuilding.Rebuilding.{Rebuilding}
use Rattle.sheet.specs.Hits.{Hit}

module _ (page : List ℕ) where
  -- ---- where it ends
  pub ends_zero : (at : ℕ) → at ≡ 0 → chain_ends page at ≡ true
  unfolding chain_ends
  ends_zero at z = simp (eq-eqb at 0 z)

  pub ends_by : (at : ℕ) → (at ≡ 0 → ⊥) → chain_ends page at ≡ ltb (length page) (at + 4)
  unfolding chain_ends
  ends_by at n = simp (ne_eqb at 0 n)

  -- a block's four bytes lie in the page where it does not
  pub lies : (at : ℕ) → chain_ends page at ≡ false → at + 4 ≤ length page
  unfolding chain_ends
  lies at e = go (eqb at 0) e
    where
      go : (b : Bool) → (b || ltb (length page) (at + 4)) ≡ false → at + 4 ≤ length page
      go true d = absurd (let z : ◌≡◌ {A = ℕ} 0 1 = cc in omega arith)
      go false d = ltb-false (length page) (at + 4) d

  pub chain_ended : (k at : ℕ) → chain_ends page at ≡ true → chain_from k page at ≡ []
  unfolding chain_from
  chain_ended zero at e = refl
  chain_ended (suc k) at e = simp e

  -- ---- and where it goes on: a next place that is not larger ends it, as 0 does
  chain_next : (k at next : ℕ) → cond (leb next at) [] (chain_from k page next) ≡ chain_from k page (larger at next)
  chain_next k at next = go (leb next at)
    where
      go : (b : Bool) → cond b [] (chain_from k page next) ≡ chain_from k page (cond b 0 next)
      go true = sym (chain_ended k 0 (ends_zero 0 refl))
      go false = refl

  chain_on : (k at : ℕ) → chain_ends page at ≡ false → chain_from (suc k) page at ≡ block_then page at (chain_from k page (larger at (block_next page at)))
  unfolding chain_from
  chain_on k at e = simp e (ap (λ (rest : List Block). block_then page at rest) (chain_next k at (block_next page at)))

  -- ---- hits of blocks
  module _ (how : Rebuilding) (hints : List ℕ) (spot : Spot) where
    abbrev pub hits_of : List Block → List Hit
    hits_of bs = blocks_hits how page hints spot bs

    then_hits : (at : ℕ) (rest : List Block) → hits_of (block_then page at rest) ≡ hits_of (block_then page at []) ++ hits_of rest
    then_hits at rest = go (ltb (block_size page at) 4 || ltb (length page) (at + block_size page at))
      where
        b : Block
        b = record { at = at; size = block_size page at }

        go : (bad : Bool) → hits_of (cond bad rest (b ∷ rest)) ≡ hits_of (cond bad [] (b ∷ [])) ++ hits_of rest
        go true = refl
        go false = rw (append-nil (payload_hits how spot (at + 4) (payload_of page b) hints))

    -- one block, of so many bytes
    module _ (at size : ℕ) (is : size ≡ block_size page at) where
      pub block_small : size < 4 → hits_of (block_then page at []) ≡ []
      block_small h = rw (← is) (simp (lt-ltb size 4 h))

      pub block_past : 4 ≤ size → length page < at + size → hits_of (block_then page at []) ≡ []
      block_past h p = rw (← is) (simp (le-ltb size 4 h, lt-ltb (length page) (at + size) p))

      pub block_hits_lem : 4 ≤ size → at + size ≤ length page
          → hits_of (block_then page at []) ≡ payload_hits how spot (at + 4) (take (at + size - (at + 4)) (drop (at + 4) page)) hints
      block_hits_lem h p =
          let e : at + size - (at + 4) ≡ size - 4 = omega arith in
          rw (← is) (simp (le-ltb size 4 h, le-ltb (length page) (at + size) p, e, append-nil))

    -- THE LAW: a step of the chain
    pub chain_step : (left at : ℕ) → 0 < left → chain_ends page at ≡ false
        → hits_of (chain_from left page at) ≡ hits_of (block_then page at []) ++ hits_of (chain_from (left - 1) page (larger at (block_next page at)))
    chain_step zero at h e = absurd (omega arith)
    chain_step (suc k) at h e =
        rw (suc-sub-suc, sub-zero) (ap hits_of (chain_on k at e) ∙ then_hits at (chain_from k page (larger at (block_next page at))))

    pub chain_end : (left at : ℕ) → chain_ends page at ≡ true → hits_of (chain_from left page at) ≡ []
    chain_end left at e = ap hits_of (chain_ended left at e)

    pub chain_out : (left at : ℕ) → left ≡ 0 → hits_of (chain_from left page at) ≡ []
    unfolding chain_from
    chain_out left at z = rw z

    pub chain_start : (head at : ℕ) → at ≡ first_freeblock page head → hits_of (chain_from most_steps page at) ≡ hits_of (chain page head)
    unfolding chain
    chain_start head at e = rw e
