-- What a reader of carved tables rests on: the leaves of a walk are pages that are there, tables that have passed the checks are as narrow as they
-- should be, and hits come table by table.
-- Assumes nothing.
use Prim.Native.Nat.{ℕ, zero, suc, ◌+◌, ◌*◌, ◌/◌, ◌≤◌}
use mathlib.Core.Path.{◌≡◌, refl, sym}
use mathlib.Core.Bool.{Bool, true, false, cond, and-eq-true_iff}
use mathlib.Core.List.{List, [], ◌∷◌}
use native.Mathlib.Nat.{le_trans, le-max_left, le-max_right}
use native.Mathlib.Omega.{arith}
use lib.Dec.{ltb}
use lib.ListN.{length, drop, replicate, length-drop}
use lib.Seq.{length-take-le}
use Rattle.sheet.proofs.Laws.{count_fits_lem}
use Rattle.sheet.specs.Limits.{count_fits}
use Rattle.walk.specs.Carve.{Table, tables_of, sum_of, widest, counts_fit, Carver, hits_from, tables_hits}
use Rattle.walk.specs.Walk.{Popped, leaf_then, onward, overflow, marked, popped, Walk, through, overflowed, leaf, from_popped, walk_from, walk}
use Rattle.walk.proofs.Popping.{leaf_there}

-- ---- each leaf is one of so many pages
abbrev pub AllThere : ℕ → Walk → Type 0
AllThere pages through = Unit
AllThere pages overflowed = Unit
AllThere pages (leaf p t) = (1 ≤ p) × (p ≤ pages) × AllThere pages t

module _ (db : List ℕ) (size depth : ℕ) where
  from_there : (f : ℕ) (marks st : List ℕ) → AllThere (length db / size) (walk_from f db size depth marks st)
  unfolding walk_from
  from_there zero marks st = tt
  from_there (suc f) marks [] = tt
  from_there (suc f) marks (p ∷ st) = go (popped db size depth marks p st) refl (λ s. from_there f (marked (length db) size marks p) s)
    where
      go : (o : Popped) → popped db size depth marks p st ≡ o
          → ((s : List ℕ) → AllThere (length db / size) (walk_from f db size depth (marked (length db) size marks p) s))
          → AllThere (length db / size) (from_popped p (λ s. walk_from f db size depth (marked (length db) size marks p) s) o)
      go (leaf_then t) e rest = let l = leaf_there db size depth marks p st t (sym e) in (l.0, l.1, rest t)
      go (onward t) e rest = rest t
      go overflow e rest = tt

  -- THE LAW: the leaves of a walk are pages that are there
  pub walk_there : (root : ℕ) → AllThere (length db / size) (walk db size depth root)
  unfolding walk
  walk_there root = go (ltb 0 depth)
    where
      go : (b : Bool)
          → AllThere (length db / size) (cond b (walk_from (length db / size * (depth + 1) + 1) db size depth (replicate (length db / size) 0) (root ∷ [])) overflowed)
      go true = from_there (length db / size * (depth + 1) + 1) (replicate (length db / size) 0) (root ∷ [])
      go false = tt

-- ---- each table has some columns, and no more than the width
abbrev pub AllNarrow : ℕ → List Table → Type 0
AllNarrow width [] = Unit
AllNarrow width (b ∷ bs) = (1 ≤ length b.hints) × (length b.hints ≤ width) × AllNarrow width bs

-- THE LAW: counts that fit, and hints enough for them, make such tables
pub tables_narrow : (roots counts hints : List ℕ) (width : ℕ) → counts_fit counts ≡ true → sum_of counts ≤ length hints → widest counts ≤ width
    → AllNarrow width (tables_of roots counts hints)
tables_narrow [] counts hints width fit sums wide = tt
tables_narrow (r ∷ rs) [] hints width fit sums wide = tt
tables_narrow (r ∷ rs) (c ∷ cs) hints width fit sums wide =
    let f = (and-eq-true_iff (count_fits c) (counts_fit cs)).0 fit in
    let k = count_fits_lem c f.0 in
    let s : c + sum_of cs ≤ length hints = sums in
    let n = length-take-le c hints (omega arith) in
    let own = le_trans (le-max_left c (widest cs)) wide in (
      omega (arith, k.0),
      omega arith,
      tables_narrow rs cs (drop c hints) width f.1 (omega (arith, length-drop c hints)) (le_trans (le-max_right c (widest cs)) wide),
    )

-- THE LAW: the hits are those of the tables, one after the other
pub hits_in_turn : {A : Type 0} (carve : Carver A) (db : List ℕ) (size : ℕ) (roots counts hints : List ℕ) (depth : ℕ)
    → tables_hits carve db size roots counts hints depth ≡ hits_from (λ root. walk db size depth root) carve 0 (tables_of roots counts hints)
unfolding tables_hits
hits_in_turn carve db size roots counts hints depth = refl
