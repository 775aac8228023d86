-- The list without guesses (rule 11.13) of walks over tables: leaf by leaf, and so in all.
-- Assumes nothing.
use Prim.Native.Nat.{ℕ, suc}
use mathlib.Core.Path.{◌≡◌, refl, ap, ◌∙◌}
use mathlib.Core.Bool.{Bool, true, false, cond}
use mathlib.Core.List.{List, [], ◌∷◌, ◌++◌, map, map-append}
use lib.ListN.{length}
use Rattle.carving.specs.Calls.{leaf_hits}
use Rattle.carving.specs.declared.inner.Carving.TheVariants.{Gaps}
use Rattle.gaplaws.proofs.Guesses.{without_append, leaf_parts_lem, leaf_unguessed}
use Rattle.gaplaws.specs.Parts.{Part, hit_in, without_guesses, leaf_parts, tabled_parts, tabled_by}
use Rattle.rebuild.specs.declared.rebuilding.Rebuilding.{Rebuilding}
use Rattle.rebuild.specs.declared.rebuilding.Rebuilding.TheVariants.{NoGuesses}
use Rattle.sheet.specs.Hits.{Hit}
use Rattle.tables.specs.Calls.{Asked, tabled_hits}
use Rattle.walk.specs.Carve.{Table, tables_of, Carver, hits_from, tables_hits}
use Rattle.walk.specs.Walk.{Walk, through, overflowed, leaf, walk, hits_of, overflows}

-- ---- what keeps lists that are joined joined can be done leaf by leaf
module _ {A B : Type 0} (of : List A → List B) (none : of [] ≡ []) (joined : (a b : List A) → of (a ++ b) ≡ of a ++ of b) where
  of_walk : (carve : ℕ → List A) (carve' : ℕ → List B) → ((p : ℕ) → of (carve p) ≡ carve' p) → (w : Walk) → of (hits_of carve w) ≡ hits_of carve' w
  of_walk carve carve' same through = none
  of_walk carve carve' same overflowed = none
  of_walk carve carve' same (leaf p w) = rw (joined (carve p) (hits_of carve w), same p, of_walk carve carve' same w) refl

  module _ (walk_of : ℕ → Walk) (carve : Carver A) (carve' : Carver B) (same : (t : ℕ) (hints : List ℕ) (p : ℕ) → of (carve t hints p) ≡ carve' t hints p) where
    of_tables : (t : ℕ) (bs : List Table) → of (hits_from walk_of carve t bs) ≡ hits_from walk_of carve' t bs
    of_tables t [] = none
    of_tables t (b ∷ bs) =
        joined (hits_of (carve t b.hints) (walk_of b.root)) (cond (overflows (walk_of b.root)) [] (hits_from walk_of carve (suc t) bs))
        ∙ rw (of_walk (carve t b.hints) (carve' t b.hints) (same t b.hints) (walk_of b.root), later (overflows (walk_of b.root)) (of_tables (suc t) bs)) refl
      where
        later : (stopped : Bool) → of (hits_from walk_of carve (suc t) bs) ≡ hits_from walk_of carve' (suc t) bs
            → of (cond stopped [] (hits_from walk_of carve (suc t) bs)) ≡ cond stopped [] (hits_from walk_of carve' (suc t) bs)
        later true e = none
        later false e = e

-- THE LAWS, of tables
module _ (how : Rebuilding) (a : Asked) where
  abbrev walk_of : ℕ → Walk
  walk_of root = walk a.db a.size (length a.stack) root

  pub tabled_parts_lem : map hit_in (tabled_parts how a) ≡ tabled_hits (tabled_by (Gaps how) a)
  unfolding tables_hits
  tabled_parts_lem =
      of_tables (map hit_in) refl (map-append hit_in) walk_of (leaf_parts how a.db a.size) (leaf_hits (Gaps how) a.db a.size)
      (λ t hints p. leaf_parts_lem how a.db a.size t hints p) 0 (tables_of a.roots a.counts a.hints)

  abbrev plain : List Part → List Hit
  plain ps = map hit_in (without_guesses ps)

  pub tabled_unguessed : plain (tabled_parts how a) ≡ tabled_hits (tabled_by (Gaps NoGuesses) a)
  unfolding tables_hits
  tabled_unguessed =
      of_tables plain refl (λ x y. ap (map hit_in) (without_append x y) ∙ map-append hit_in (without_guesses x) (without_guesses y)) walk_of
      (leaf_parts how a.db a.size) (leaf_hits (Gaps NoGuesses) a.db a.size) (λ t hints p. leaf_unguessed how a.db a.size t hints p) 0
      (tables_of a.roots a.counts a.hints)
