-- A region from attempt to attempt: the rows so far, with those still to come, are all of them.
-- Assumes nothing.
use Prim.Native.Nat.{ℕ, zero, suc, ◌+◌, ◌≤◌, ◌<◌}
use mathlib.Core.Path.{◌≡◌, refl, ap, ◌∙◌}
use mathlib.Core.Bool.{false}
use mathlib.Core.List.{List, [], ◌∷◌}
use native.Mathlib.Omega.{arith}
use borrow.Author.Tests.{le-leb, lt-leb}
use lib.ListN.{length}
use Rattle.modes.proofs.Bodies.{end_inside}
use Rattle.modes.proofs.Carving.{ready_then, Carving, carving_start, carving_as, carving_done, carving_over, carving_one}
use Rattle.modes.specs.Found.{Found, miss, hit, end_of, found_hit, found_hits}
use Rattle.modes.specs.Inner.{found_in, HitIs, Ready, Adding}
use Rattle.modes.specs.declared.inner.Find.{Find}
use Rattle.sheet.specs.Hits.{Hit}
use Rattle.sheet.specs.Inner.{on, over, Adds}
use Rattle.sheet.specs.declared.inner.Sheet.{Sheet}
use Rattle.unalloc.specs.Learned.{attempt_at, rows_from, rows_found}
use Rattle.unalloc.proofs.Attempting.{attempt_found}

-- ---- from attempt to attempt
module _ (s ls : List ℕ) (o : ℕ) where
  pub rows_hit : (f : ℕ) (x : Found) → o + (1 + length ls) ≤ length s → attempt_at s ls o ≡ hit x → rows_from (suc f) s ls o ≡ x ∷ rows_from f s ls (end_of (length s) x)
  unfolding rows_from
  rows_hit f x h e = simp (le-leb (o + (1 + length ls)) (length s) h, e)

  pub rows_miss : (f : ℕ) → o + (1 + length ls) ≤ length s → attempt_at s ls o ≡ miss → rows_from (suc f) s ls o ≡ rows_from f s ls (o + 1)
  unfolding rows_from
  rows_miss f h e = simp (le-leb (o + (1 + length ls)) (length s) h, e)

  pub rows_end : (f : ℕ) → length s < o + (1 + length ls) → rows_from f s ls o ≡ []
  unfolding rows_from
  rows_end zero h = refl
  rows_end (suc f) h = simp (lt-leb (o + (1 + length ls)) (length s) h)

  -- a row takes bytes, and ends in the region
  pub row_ends : (x : Found) → attempt_at s ls o ≡ hit x → (o < end_of (length s) x) × (end_of (length s) x ≤ length s)
  row_ends x e =
      let m = attempt_found s ls o x e in
      let b = end_inside (length s) x.start x.types m.inside in
      (omega (arith, b.0, m.past), b.1)

-- the rows from o on are still to come
pub record Rows (s ls : List ℕ) (base : ℕ) (s₀ : Sheet) (o : ℕ) (s' : Sheet) : Type 0 where
  pub fuel : ℕ
  pub enough : length s ≤ o + fuel
  pub inside : o ≤ length s
  pub carving : Carving (found_hits (length s) base (rows_found s ls)) (found_hits (length s) base (rows_from fuel s ls o)) s₀ s'

module _ (s ls : List ℕ) (base : ℕ) (s₀ : Sheet) where
  abbrev all : List Hit
  all = found_hits (length s) base (rows_found s ls)

  pub rows_start : s₀.n ≤ s₀.room → Rows s ls base s₀ 0 s₀
  unfolding rows_found
  rows_start h = record { fuel = length s; enough = omega arith; inside = omega arith; carving = carving_start (found_hits (length s) base (rows_found s ls)) s₀ h }

  module _ (o : ℕ) (s' : Sheet) (w : Rows s ls base s₀ o s') where
    abbrev later : List Hit
    later = found_hits (length s) base (rows_from w.fuel s ls o)

    pub rows_fitting : Ready (length s) base s₀ → s₀.width ≡ length ls → (x : Find) → HitIs s (length ls) (attempt_at s ls o) x → Adding s x base s'
    rows_fitting r e x f =
        record {
          ready = ready_then (length s) base w.carving.done s₀ s' r w.carving.added;
          fits = rw (w.carving.added.width, e) f.fits;
        }

    pub rows_done : length s < o + (1 + length ls) → Adds all false s₀ (on s'.n) s'
    rows_done h = carving_done all later s₀ s' w.carving (rw (rows_end s ls o w.fuel h))

    module _ (h : o + (1 + length ls) ≤ length s) where
      some_fuel : (g : ℕ) × (w.fuel ≡ suc g)
      some_fuel = go w.fuel w.enough
        where
          go : (f : ℕ) → length s ≤ o + f → (g : ℕ) × (f ≡ suc g)
          go zero k = absurd (omega arith)
          go (suc g) k = (g, refl)

      pub rows_missed : attempt_at s ls o ≡ miss → Rows s ls base s₀ (o + 1) s'
      rows_missed e =
          let g = some_fuel in
          let next : later ≡ found_hits (length s) base (rows_from g.0 s ls (o + 1)) = ap (λ (f : ℕ). found_hits (length s) base (rows_from f s ls o)) g.1 ∙ rw (rows_miss s ls o g.0 h e) in
          record {
            fuel = g.0;
            enough = omega (arith, w.enough, g.1);
            inside = omega arith;
            carving = carving_as all later s₀ s' w.carving (found_hits (length s) base (rows_from g.0 s ls (o + 1))) next;
          }

      module _ (x : Find) (f : HitIs s (length ls) (attempt_at s ls o) x) (s'' : Sheet) where
        abbrev one : Hit
        one = found_hit (length s) base (found_in s x)

        abbrev rest : List Hit
        rest = found_hits (length s) base (rows_from some_fuel.0 s ls (end_of (length s) (found_in s x)))

        next : later ≡ one ∷ rest
        next = let g = some_fuel in ap (λ (k : ℕ). found_hits (length s) base (rows_from k s ls o)) g.1 ∙ rw (rows_hit s ls o g.0 (found_in s x) h f.is)

        pub rows_over : Adds (one ∷ []) false s' over s'' → Adds all false s₀ over s''
        rows_over a = carving_over all later s₀ s' w.carving one rest next s'' a

        pub rows_one : Adds (one ∷ []) false s' (on s''.n) s'' → Rows s ls base s₀ (end_of (length s) (found_in s x)) s''
        rows_one a =
            let m = row_ends s ls o (found_in s x) f.is in
            record {
              fuel = some_fuel.0;
              enough = omega (arith, w.enough, some_fuel.1, m.0);
              inside = m.1;
              carving = carving_one all later s₀ s' w.carving one rest next s'' a;
            }
