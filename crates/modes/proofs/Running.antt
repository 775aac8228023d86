-- The modes one after the other: rows of Normal as long as there are any, and what comes where there are none.
-- Assumes nothing.
use Rattle.std.specs.Prelude.{Option, Some, None}
use Prim.Native.Nat.{ℕ, zero, suc, ◌+◌, ◌≤◌, ◌<◌}
use mathlib.Core.Path.{◌≡◌, refl, sym, ◌∙◌}
use mathlib.Core.Bool.{false}
use mathlib.Core.List.{List, [], ◌∷◌, ◌++◌}
use native.Mathlib.Omega.{arith}
use borrow.Author.Tests.{le-leb, lt-leb}
use lib.ListN.{length}
use Rattle.modes.specs.Found.{Found, Tried, miss, hit, end_of, found_hit, found_hits}
use Rattle.modes.specs.Inner.{found_in, HitIs, TriedIs, TriedFits, tried_hits, Ready, Adding}
use Rattle.modes.specs.Modes.{columns_only, listed, or_else, headless_in, columns_only_in, first_col_missing_in, normal_at, normal_from, normal_found, headless_found, modes_found}
use Rattle.modes.specs.declared.inner.Find.{Find}
use Rattle.modes.proofs.Bodies.{end_inside}
use Rattle.modes.proofs.Carving.{ready_then, Carving, carving_start, carving_done, carving_over, carving_one}
use Rattle.modes.proofs.Trying.{normal_found_lem}
use Rattle.sheet.proofs.Carving.{told_on, told_over}
use Rattle.sheet.proofs.Sheets.{adds_more, adds_stop}
use Rattle.sheet.specs.Hits.{Hit}
use Rattle.sheet.specs.Inner.{Told, on, over, Adds}
use Rattle.sheet.specs.declared.inner.Sheet.{Sheet}

-- ---- Normal
module _ (s : List ℕ) (columns o : ℕ) where
  pub normal_on : (f : ℕ) (x : Found) → o + 3 ≤ length s → normal_at s columns o ≡ hit x → normal_from (suc f) s columns o ≡ x ∷ normal_from f s columns (end_of (length s) x)
  unfolding normal_from
  normal_on f x h e = simp (le-leb (o + 3) (length s) h, e)

  pub normal_stop : (f : ℕ) → o + 3 ≤ length s → normal_at s columns o ≡ miss → normal_from f s columns o ≡ []
  unfolding normal_from
  normal_stop zero h e = refl
  normal_stop (suc f) h e = simp (le-leb (o + 3) (length s) h, e)

  pub normal_end : (f : ℕ) → length s < o + 3 → normal_from f s columns o ≡ []
  unfolding normal_from
  normal_end zero h = refl
  normal_end (suc f) h = simp (lt-leb (o + 3) (length s) h)

  -- a row takes bytes, and ends in the slice
  pub normal_ends : (x : Found) → normal_at s columns o ≡ hit x → (o < end_of (length s) x) × (end_of (length s) x ≤ length s)
  normal_ends x e =
      let m = normal_found_lem s columns o x e in
      let b = end_inside (length s) x.start x.types m.inside in
      (omega (arith, b.0, m.past), b.1)

-- of the rows that stand one behind the other, those from o on are still to come
pub record Normals (s : List ℕ) (base columns : ℕ) (s₀ : Sheet) (o : ℕ) (s' : Sheet) : Type 0 where
  pub fuel : ℕ
  pub enough : length s ≤ o + fuel
  pub inside : o ≤ length s
  pub carving : Carving (found_hits (length s) base (normal_found s columns)) (found_hits (length s) base (normal_from fuel s columns o)) s₀ s'

module _ (s : List ℕ) (base columns : ℕ) (s₀ : Sheet) where
  abbrev all : List Hit
  all = found_hits (length s) base (normal_found s columns)

  pub normals_start : s₀.n ≤ s₀.room → Normals s base columns s₀ 0 s₀
  unfolding normal_found
  normals_start h = record { fuel = length s; enough = omega arith; inside = omega arith; carving = carving_start (found_hits (length s) base (normal_found s columns)) s₀ h }

  module _ (o : ℕ) (s' : Sheet) (w : Normals s base columns s₀ o s') where
    abbrev later : List Hit
    later = found_hits (length s) base (normal_from w.fuel s columns o)

    pub normals_width : s'.width ≡ s₀.width
    normals_width = w.carving.added.width

    pub normals_fitting : Ready (length s) base s₀ → (x : Find) → HitIs s s₀.width (normal_at s s₀.width o) x → Adding s x base s'
    normals_fitting r x f = record { ready = ready_then (length s) base w.carving.done s₀ s' r w.carving.added; fits = rw normals_width f.fits }

    ends : normal_from w.fuel s columns o ≡ [] → Adds all false s₀ (on s'.n) s'
    ends e = carving_done all later s₀ s' w.carving (rw e)

    pub normals_end : length s < o + 3 → Adds all false s₀ (on s'.n) s'
    normals_end h = ends (normal_end s columns o w.fuel h)

    module _ (h : o + 3 ≤ length s) where
      pub normals_stop : normal_at s columns o ≡ miss → Adds all false s₀ (on s'.n) s'
      normals_stop e = ends (normal_stop s columns o w.fuel h e)

      module _ (x : Find) (f : HitIs s columns (normal_at s columns o) x) (s'' : Sheet) where
        abbrev one : Hit
        one = found_hit (length s) base (found_in s x)

        next : (g : ℕ) × (w.fuel ≡ suc g) × (found_hits (length s) base (normal_from w.fuel s columns o) ≡ one ∷ found_hits (length s) base (normal_from g s columns (end_of (length s) (found_in s x))))
        next = go w.fuel w.enough
          where
            go : (f' : ℕ) → length s ≤ o + f' → (g : ℕ) × (f' ≡ suc g)
                × (found_hits (length s) base (normal_from f' s columns o) ≡ one ∷ found_hits (length s) base (normal_from g s columns (end_of (length s) (found_in s x))))
            go zero k = absurd (omega arith)
            go (suc g) k = (g, refl, rw (normal_on s columns o g (found_in s x) h f.is))

        pub normals_over : Adds (one ∷ []) false s' over s'' → Adds all false s₀ over s''
        normals_over a = carving_over all later s₀ s' w.carving one _ next.2 s'' a

        pub normals_one : Adds (one ∷ []) false s' (on s''.n) s'' → Normals s base columns s₀ (end_of (length s) (found_in s x)) s''
        normals_one a =
            let m = normal_ends s columns o (found_in s x) f.is in
            record {
              fuel = next.0;
              enough = omega (arith, w.enough, next.1, m.0);
              inside = m.1;
              carving = carving_one all later s₀ s' w.carving one _ next.2 s'' a;
            }

-- ---- the other two
hits_append : (len base : ℕ) (a b : List Found) → found_hits len base (a ++ b) ≡ found_hits len base a ++ found_hits len base b
hits_append len base [] b = refl
hits_append len base (x ∷ a) b = rw (hits_append len base a b)

-- what was tried is what a mode finds
pub tried_fits : (s : List ℕ) (columns : ℕ) (t : Tried) (r : Option Find) → TriedIs s columns t r → TriedFits s columns r
tried_fits s columns t (Some x) e = e.fits
tried_fits s columns t None e = tt

tried_are : (s : List ℕ) (base columns : ℕ) (t : Tried) (r : Option Find) → TriedIs s columns t r → tried_hits s base r ≡ found_hits (length s) base (listed t)
tried_are s base columns t (Some x) e = rw e.is
tried_are s base columns t None e = rw e

headless_is : (s : List ℕ) (base columns : ℕ)
    → found_hits (length s) base (listed (columns_only_in s columns)) ++ found_hits (length s) base (listed (first_col_missing_in s columns)) ≡ found_hits (length s) base (headless_found s columns)
unfolding headless_found
headless_is s base columns = sym (hits_append (length s) base (listed (columns_only_in s columns)) (listed (first_col_missing_in s columns)))

-- ColumnsOnly has all columns
pub whole_is : (s : List ℕ) (columns : ℕ) (r : Option Find) → TriedIs s (columns + 0) (headless_in columns_only s 0 columns) r → TriedIs s columns (columns_only_in s columns) r
whole_is s columns r t = let n : columns + 0 ≡ columns = omega arith in rw n at t

module _ (s : List ℕ) (base columns : ℕ) (s₀ s' : Sheet) (whole : Option Find) (t : TriedIs s columns (columns_only_in s columns) whole) where
  abbrev both : List Hit
  both = found_hits (length s) base (headless_found s columns)

  abbrev first : List Hit
  first = found_hits (length s) base (listed (columns_only_in s columns))

  abbrev second : List Hit
  second = found_hits (length s) base (listed (first_col_missing_in s columns))

  pub headless_over : Adds (tried_hits s base whole) false s₀ over s' → Adds both false s₀ over s'
  headless_over x = rw (headless_is s base columns) at (adds_stop first second s₀ s' false false (rw (tried_are s base columns (columns_only_in s columns) whole t) at x))

  pub headless_both : (missing : Option Find) (r : Told) (s'' : Sheet) → TriedIs s columns (first_col_missing_in s columns) missing
      → Adds (tried_hits s base whole) false s₀ (on s'.n) s' → Adds (tried_hits s base missing) false s' r s'' → Adds both false s₀ r s''
  headless_both missing r s'' u x y =
      rw (headless_is s base columns) at
      (adds_more first second s₀ s' s'' false r
      (rw (tried_are s base columns (columns_only_in s columns) whole t) at x) (rw (tried_are s base columns (first_col_missing_in s columns) missing u) at y))

-- ---- all of them
module _ (s : List ℕ) (base columns : ℕ) where
  abbrev found : List Hit
  found = found_hits (length s) base (normal_found s columns)

  found_some : 0 < length found → found ≡ found_hits (length s) base (modes_found s columns)
  unfolding modes_found
  found_some h = go (normal_found s columns) h
    where
      go : (xs : List Found) → 0 < length (found_hits (length s) base xs) → found_hits (length s) base xs ≡ found_hits (length s) base (or_else xs (headless_found s columns))
      go [] h = absurd (omega arith)
      go (x ∷ xs) h = refl

  found_none : length found ≡ 0 → found ++ found_hits (length s) base (headless_found s columns) ≡ found_hits (length s) base (modes_found s columns)
  unfolding modes_found
  found_none z = go (normal_found s columns) z
    where
      go : (xs : List Found) → length (found_hits (length s) base xs) ≡ 0
          → found_hits (length s) base xs ++ found_hits (length s) base (headless_found s columns) ≡ found_hits (length s) base (or_else xs (headless_found s columns))
      go [] z = refl
      go (x ∷ xs) z = absurd (omega arith)

  module _ (s₀ s' : Sheet) (r : Ready (length s) base s₀) (empty : s₀.n ≡ 0) where
    pub modes_over : Adds found false s₀ over s' → Adds (found_hits (length s) base (modes_found s columns)) false s₀ over s'
    modes_over x = rw (found_some (omega (arith, told_over s₀.room s₀.n (length found) false x.carves.answer, r.fits, empty))) at x

    module _ (x : Adds found false s₀ (on s'.n) s') where
      pub modes_some : 0 < s'.n → Adds (found_hits (length s) base (modes_found s columns)) false s₀ (on s'.n) s'
      modes_some h = rw (found_some (omega (arith, (told_on s₀.room s₀.n (length found) s'.n false x.carves.answer).1, empty))) at x

      pub modes_none : (t : Told) (s'' : Sheet) → s₀.width ≡ columns → s'.n ≡ 0 → Adds (found_hits (length s) base (headless_found s s'.width)) false s' t s''
          → Adds (found_hits (length s) base (modes_found s columns)) false s₀ t s''
      modes_none t s'' w z y =
          let none = found_none (omega (arith, (told_on s₀.room s₀.n (length found) s'.n false x.carves.answer).1)) in
          let wide : s'.width ≡ columns = x.width ∙ w in
          let same : found_hits (length s) base (headless_found s s'.width) ≡ found_hits (length s) base (headless_found s columns) = rw wide in
          rw none at (adds_more found (found_hits (length s) base (headless_found s columns)) s₀ s' s'' false t x (rw same at y))
