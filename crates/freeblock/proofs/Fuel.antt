-- The bound on the blocks never cuts a chain short: any bound from the page's length on gives the same blocks.
-- Assumes nothing.
use Prim.Native.Nat.{ℕ, zero, suc, ◌+◌, ◌≤◌, ◌<◌}
use mathlib.Core.Path.{◌≡◌, refl, sym, ap, ◌∙◌}
use mathlib.Core.Bool.{Bool, true, false, cond}
use mathlib.Core.List.{List, [], ◌∷◌}
use mathlib.Core.Logic.{by_cases}
use native.Mathlib.Decide.{ℕ_discrete}
use native.Mathlib.Omega.{arith}
use borrow.Author.Tests.{eq-eqb, ne_eqb}
use lib.ListN.{length}
use Rattle.freeblock.specs.Freeblock.{chain_ends, blocks_from, freeblocks}
use Rattle.freeblock.proofs.Chaining.{blocks_end, blocks_seen, blocks_on, lies}
use Rattle.page.specs.Page.{among, first_freeblock, block_next, block_size, Block}

-- how many places below n were not seen
unfoldable free : ℕ → List ℕ → ℕ
free zero seen = 0
free (suc n) seen = cond (among n seen) 0 1 + free n seen

free_all : (n : ℕ) → free n [] ≡ n
unfolding free
free_all zero = refl
free_all (suc n) = omega (arith, free_all n)

free_above : (n at : ℕ) (seen : List ℕ) → n ≤ at → free n (at ∷ seen) ≡ free n seen
unfolding free
free_above zero at seen h = refl
free_above (suc n) at seen h = simp (ne_eqb n at (λ e. omega arith), free_above n at seen (omega arith))

-- a place that is seen for the first time takes one away
free_less : (n at : ℕ) (seen : List ℕ) → at < n → among at seen ≡ false → free n seen ≡ suc (free n (at ∷ seen))
unfolding free
free_less zero at seen h s = absurd (omega arith)
free_less (suc n) at seen h s =
    by_cases (ℕ_discrete n at)
    (λ e. rw e (simp (s, eq-eqb at at refl, free_above at at seen (omega arith)) (omega arith)))
    (λ ne. simp (ne_eqb n at ne) (omega (arith, free_less n at seen (omega arith) s)))

module _ (page : List ℕ) (head : ℕ) where
  -- the chain ends here, or has been here, or there is a block
  cases : {C : Type 0} (at : ℕ) (seen : List ℕ) → (chain_ends page head at ≡ true → C) → (among at seen ≡ true → C)
      → (chain_ends page head at ≡ false → among at seen ≡ false → free (length page) seen ≡ suc (free (length page) (at ∷ seen)) → C) → C
  cases {C} at seen ends been on = by (chain_ends page head at) (among at seen) refl refl
    where
      by : (a b : Bool) → chain_ends page head at ≡ a → among at seen ≡ b → C
      by true b e s = ends e
      by false true e s = been s
      by false false e s = on e s (free_less (length page) at seen (omega (arith, (lies page head at e).four)) s)

  any_fuel : (f g at : ℕ) (seen : List ℕ) → free (length page) seen ≤ f → free (length page) seen ≤ g → blocks_from f page head seen at ≡ blocks_from g page head seen at
  any_fuel zero g at seen h k =
      cases at seen
      (λ e. blocks_end page head 0 seen at e ∙ sym (blocks_end page head g seen at e))
      (λ s. blocks_seen page head 0 seen at s ∙ sym (blocks_seen page head g seen at s))
      (λ e s less. absurd (omega arith))
  any_fuel (suc f) zero at seen h k =
      cases at seen
      (λ e. blocks_end page head (suc f) seen at e ∙ sym (blocks_end page head 0 seen at e))
      (λ s. blocks_seen page head (suc f) seen at s ∙ sym (blocks_seen page head 0 seen at s))
      (λ e s less. absurd (omega arith))
  any_fuel (suc f) (suc g) at seen h k =
      cases at seen
      (λ e. blocks_end page head (suc f) seen at e ∙ sym (blocks_end page head (suc g) seen at e))
      (λ s. blocks_seen page head (suc f) seen at s ∙ sym (blocks_seen page head (suc g) seen at s))
      (λ e s less.
      blocks_on page head f seen at e s
      ∙ ap (λ (bs : List Block). record { at = at; size = block_size page at } ∷ bs) (any_fuel f g (block_next page at) (at ∷ seen) (omega arith) (omega arith))
      ∙ sym (blocks_on page head g seen at e s))

  -- THE LAW
  pub whole_chain : (g : ℕ) → length page ≤ g → blocks_from g page head [] (first_freeblock page head) ≡ freeblocks page head
  unfolding freeblocks
  whole_chain g h = let z = free_all (length page) in any_fuel g (length page) (first_freeblock page head) [] (omega arith) (omega arith)
