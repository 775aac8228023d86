-- Bodies one behind the other: the total that the code carries decides as the definition does.
-- Assumes nothing.
use Rattle.std.specs.Prelude.{None, Some}
use Prim.Native.Nat.{ℕ, ◌+◌, ◌-◌, ◌≤◌, ◌<◌, min}
use mathlib.Core.Path.{◌≡◌, refl, sym, ap, subst, ◌∙◌}
use mathlib.Core.Bool.{Bool, true, false, cond, ◌&&◌}
use mathlib.Core.List.{List, [], ◌∷◌}
use native.Mathlib.Nat.{add-zero}
use native.Mathlib.Omega.{arith}
use lib.ListN.{length}
use lib.Dec.{ltb, eqb}
use borrow.Author.Tests.{lt-ltb, le-ltb, le-leb, lt-leb, eq-eqb, ne_eqb}
use Rattle.record.proofs.Numbers.{by_order}
use Rattle.record.specs.Value.{body_length}
use Rattle.record.specs.Value.{Length}
use Rattle.attempt.specs.Attempt.{Bodies, unfit, laid, before, bodies_from, miss, hit, sized, judged, most_bytes}
use Rattle.attempt.specs.Hints.{suited}
use Rattle.attempt.specs.Inner.{too_long, size_or, body_size, total_from, sizes, columns_at}
use Rattle.sheet.specs.declared.columns.Column.{Column}
use Rattle.sheet.specs.declared.columns.Column.TheVariants.{Body}

pub total_min : (total : ℕ) (ts : List ℕ) → total ≤ too_long → total_from total ts ≡ min too_long (total + sizes ts)
unfolding total_from
total_min total [] h = omega arith
total_min total (t ∷ ts) h = let z = total_min (min too_long (total + body_size t)) ts (omega arith) in omega arith

-- a size that is not too long is a body's
size_is : (t : ℕ) → body_size t < too_long → body_length t ≡ Some (body_size t)
unfolding body_size
size_is t h = go (body_length t) h
  where
    go : (l : Length) → size_or l < too_long → l ≡ Some (size_or l)
    go (Some n) h = refl
    go None h = absurd (omega arith)

size_of : (t n : ℕ) → body_length t ≡ Some n → body_size t ≡ n
unfolding body_size
size_of t n e = rw e

-- ---- `bodies_from`
pub bodies_end : (len : ℕ) (at : ℕ) → bodies_from len at [] ≡ laid [] at
unfolding bodies_from
bodies_end len at = refl

module _ (len : ℕ) (at t : ℕ) (ts : List ℕ) where
  pub bodies_step : (n : ℕ) → body_length t ≡ Some n → at + n ≤ len → bodies_from len at (t ∷ ts) ≡ before (Body t at n) (bodies_from len (at + n) ts)
  unfolding bodies_from
  bodies_step n l h = simp (l, le-leb (at + n) len h)

  pub bodies_out : (n : ℕ) → body_length t ≡ Some n → len < at + n → bodies_from len at (t ∷ ts) ≡ unfit
  unfolding bodies_from
  bodies_out n l h = simp (l, lt-leb (at + n) len h)

  pub bodies_none : body_length t ≡ None → bodies_from len at (t ∷ ts) ≡ unfit
  unfolding bodies_from
  bodies_none l = simp l

pub lays : (len : ℕ) (at : ℕ) (ts : List ℕ) → at ≤ len → sizes ts < too_long → at + sizes ts ≤ len → bodies_from len at ts ≡ laid (columns_at at ts) (at + sizes ts)
lays len at [] h lt in' = bodies_end len at ∙ ap (laid []) (sym (add-zero at))
lays len at (t ∷ ts) h lt in' =
    let n = body_size t in
    let rest = lays len (at + n) ts (omega arith) (omega arith) (omega arith) in
    let e : at + n + sizes ts ≡ at + (n + sizes ts) = omega arith in
    bodies_step len at t ts n (size_is t (omega arith)) (omega arith) ∙ rw (rest, e)

never : {C : Type 0} {cs : List Column} {end : ℕ} → unfit ≡ laid cs end → C
never e = let z : ◌≡◌ {A = ℕ} 0 1 = cc in absurd (omega arith)

-- a column before bodies that are laid
behind : (c : Column) (b : Bodies) (cs : List Column) (end : ℕ) → before c b ≡ laid cs end → (ds : List Column) × (b ≡ laid ds end) × (c ∷ ds ≡ cs)
behind c unfit cs end e = never e
behind c (laid ds end') cs end e = let z : end' ≡ end = cc in (ds, rw z, cc)

-- what holds where no body is left, and of one before others, holds of bodies that are laid
module _ (len end : ℕ) (P : ℕ → List ℕ → List Column → Type 0) (none : P end [] [])
    (more : (at t : ℕ) (ts : List ℕ) (n : ℕ) (ds : List Column) → body_length t ≡ Some n → at + n ≤ len → P (at + n) ts ds → P at (t ∷ ts) (Body t at n ∷ ds)) where
  pub over_laid : (at : ℕ) (ts : List ℕ) (cs : List Column) → bodies_from len at ts ≡ laid cs end → P at ts cs
  over_laid at [] cs e =
      let z : laid [] at ≡ laid cs end = sym (bodies_end len at) ∙ e in
      let a : at ≡ end = cc in
      let b : [] ≡ cs = cc in
      rw (a, ← b) none
  over_laid at (t ∷ ts) cs e = go (body_length t) refl (λ k ds d. over_laid k ts ds d)
    where
      go : (l : Length) → body_length t ≡ l → ((k : ℕ) (ds : List Column) → bodies_from len k ts ≡ laid ds end → P k ts ds) → P at (t ∷ ts) cs
      go None l rest = never (sym (bodies_none len at t ts l) ∙ e)
      go (Some n) l rest =
          by_order len (at + n) (λ out. never (sym (bodies_out len at t ts n l out) ∙ e))
          (λ in'.
          let b = behind (Body t at n) (bodies_from len (at + n) ts) cs end (sym (bodies_step len at t ts n l in') ∙ e) in
          subst (λ (l : List Column). P at (t ∷ ts) l) b.2 (more at t ts n b.0 l in' (rest (at + n) b.0 b.1)))

-- where bodies that were laid end
pub laid_ends : (len : ℕ) (at : ℕ) (ts : List ℕ) (cs : List Column) (end : ℕ) → at ≤ len → bodies_from len at ts ≡ laid cs end → (end ≡ at + sizes ts) × (end ≤ len)
laid_ends len at ts cs end h e =
    over_laid len end (λ at ts cs. at ≤ len → (end ≡ at + sizes ts) × (end ≤ len))
    (λ h. (omega arith, h))
    (λ at t ts n ds l in' rest h. let r = rest in' in (omega (arith, size_of t n l), r.1))
    at ts cs e h

-- ---- what the types of the header of h bytes at o come to
module _ (len : ℕ) (hints : List ℕ) (o h : ℕ) (p : Bool) (ts : List ℕ) (inside : o + h ≤ len) where
  -- no row of the wrong number of columns, and none that suits nowhere
  pub miss_count : (length ts ≡ length hints → ⊥) → judged len hints o h p ts ≡ miss
  unfolding judged
  miss_count ne = simp (ne_eqb (length ts) (length hints) ne)

  pub miss_suited : suited hints ts ≡ 0 → judged len hints o h p ts ≡ miss
  unfolding judged
  miss_suited z = rw (le-ltb 0 (suited hints ts) (omega arith)) (go (eqb (length ts) (length hints)))
    where
      go : (b : Bool) → cond (b && false) (sized o (suited hints ts) p (bodies_from len (o + h) ts)) miss ≡ miss
      go true = refl
      go false = refl

  -- none that leaves the region or is too long
  pub miss_total : (h + total_from 0 ts ≤ len - o → h + total_from 0 ts ≤ most_bytes → ⊥) → judged len hints o h p ts ≡ miss
  unfolding judged
  miss_total no' = rw (sizes_miss (bodies_from len (o + h) ts) refl) (same (eqb (length ts) (length hints) && ltb 0 (suited hints ts)))
    where
      same : (b : Bool) → cond b miss miss ≡ miss
      same true = refl
      same false = refl

      sizes_miss : (b : Bodies) → bodies_from len (o + h) ts ≡ b → sized o (suited hints ts) p b ≡ miss
      sizes_miss unfit e = refl
      sizes_miss (laid cs end) e =
          let d = laid_ends len (o + h) ts cs end inside e in
          let m = total_min 0 ts (omega arith) in
          by_order most_bytes (end - o)
          (λ long. rw (lt-leb (end - o) most_bytes long))
          (λ fit. absurd (no' (omega (arith, d.0, d.1)) (omega (arith, d.0, d.1))))

  pub hit_total : length ts ≡ length hints → 0 < suited hints ts → h + total_from 0 ts ≤ len - o → h + total_from 0 ts ≤ most_bytes
      → judged len hints o h p ts ≡ hit (record { consumed = h + total_from 0 ts; matched = suited hints ts; columns = columns_at (o + h) ts; padded = p })
  unfolding judged
  hit_total l p q r =
      let m = total_min 0 ts (omega arith) in
      let b = lays len (o + h) ts inside (omega (arith, m)) (omega (arith, m)) in
      let e : o + h + sizes ts - o ≡ h + total_from 0 ts = omega (arith, m) in
      simp (eq-eqb (length ts) (length hints) l, lt-ltb 0 (suited hints ts) p, b, e, le-leb (h + total_from 0 ts) most_bytes r)
