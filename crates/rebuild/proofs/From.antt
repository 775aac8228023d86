-- A row that was rebuilt: the header that it comes from.
-- Assumes nothing.
use Rattle.std.specs.Prelude.{None, Some}
use Prim.Native.Nat.{ℕ, zero, suc, ◌+◌, ◌-◌, ◌≤◌}
use mathlib.Core.Path.{◌≡◌, refl, sym, ap, ◌∙◌}
use mathlib.Core.Bool.{Bool, true, false, cond}
use mathlib.Core.List.{List}
use native.Mathlib.Omega.{arith}
use borrow.Author.Tests.{leb-true}
use lib.Dec.{leb}
use lib.ListN.{length, drop}
use Rattle.attempt.proofs.Shifts.{back_moved, given, longer}
use Rattle.attempt.proofs.Types.{types_step, types_cut, stops, types_to_end}
use Rattle.attempt.specs.Attempt.{Types, ended, cut, kind, is_whole, types_from, Found, Tried, miss, hit, most_bytes}
use Rattle.attempt.specs.Inner.{reach, header_types}
use Rattle.attempt.specs.Moved.{moved}
use Rattle.rebuild.specs.Header.{most_type_bytes, own_bytes, most_by, Guess, no_header, takes, exact_types, taken_from, guessed, without, rebuilt}
use Rattle.rebuild.specs.Inner.{exact_padded}
use Rattle.rebuild.specs.declared.rebuilding.Rebuilding.{Rebuilding}
use Rattle.rebuild.specs.declared.rebuilding.Rebuilding.TheVariants.{NoGuesses, OneByte, Exact}
use Rattle.rebuild.proofs.Laws.{behind_made, rebuilt_with_lem, rebuilt_cut, rebuilt_none}
use Rattle.record.proofs.Laws.{varint_lies}
use Rattle.record.proofs.Numbers.{by_order}
use Rattle.record.specs.Places.{types_padded}
use Rattle.record.specs.Varint.{varint_at}
use Rattle.record.specs.Varint.{Varint}
use Rattle.attempt.proofs.Laws.{never}

-- ---- the bytes of its types
bytes_of : {a b : ℕ} → takes a ≡ takes b → a ≡ b
bytes_of e = cc

none_taken : {C : Type 0} {t : ℕ} → no_header ≡ takes t → C
none_taken e = let z : ◌≡◌ {A = ℕ} 0 1 = cc in absurd (omega arith)

-- those of types that are read are all up to where reading stops, and no more than 510
taken_from_lem : (s : List ℕ) (v : ℕ) (ts : Types) (t : ℕ) → taken_from v ts ≡ takes t → (is_whole ts ≡ true) × (reach s ts - v ≡ t) × (t ≤ most_type_bytes)
taken_from_lem s v cut t e = none_taken e
taken_from_lem s v (kind k rest) t e = taken_from_lem s v rest t e
taken_from_lem s v (ended at) t e = go (leb (at - v) most_type_bytes) refl e
  where
    go : (b : Bool) → leb (at - v) most_type_bytes ≡ b → cond b (takes (at - v)) no_header ≡ takes t → (is_whole (ended at) ≡ true) × (at - v ≡ t) × (t ≤ most_type_bytes)
    go true q e = (refl, bytes_of e, rw (← bytes_of e) (leb-true (at - v) most_type_bytes q))
    go false q e = none_taken e

-- of one type at least they are one at least
module _ (d : List ℕ) (v : ℕ) (start : v ≤ length d) where
  exact_some : (n t : ℕ) → taken_from v (exact_types d (suc n) v) ≡ takes t → 1 ≤ t
  exact_some n t e = go (varint_at d v) refl
    where
      go : (r : Varint) → varint_at d v ≡ r → 1 ≤ t
      go None r = none_taken (rw (types_cut n d v (v + suc most_type_bytes) (omega arith) r) at e)
      go (Some (k, c)) r =
          let z = varint_lies d v k c r in
          let f = taken_from_lem d v (types_from n d c.at (v + suc most_type_bytes)) t (rw (types_step n d v (v + suc most_type_bytes) k c (omega arith) r) at e) in
          omega (arith, z.past, f.1, (stops d (v + suc most_type_bytes) n c.at z.inside).counts)

  pub guess_small : (how : Rebuilding) (n t : ℕ) → 1 ≤ n → n ≤ most_by how → guessed how d n v ≡ takes t → (1 ≤ t) × (t ≤ most_type_bytes)
  unfolding guessed
  guess_small NoGuesses n t some few e = none_taken e
  guess_small OneByte n t some few e = let z = bytes_of e in (omega arith, omega arith)
  guess_small Exact (suc n) t some few e = (exact_some n t e, (taken_from_lem d v (exact_types d (suc n) v) t e).2)
  guess_small Exact zero t some few e = absurd (omega arith)

  -- THE LAW: the types of the exact mode's header are those that it read, with their mark, and it ends where they do, in the payload
  pub header_is : (n t : ℕ) → guessed Exact d n v ≡ takes t
      → (header_types d v t v ≡ exact_types d n v) × (v + t ≡ reach d (exact_types d n v)) × (v + t ≤ length d) × (types_padded t d v (v + t) ≡ exact_padded d n v)
  unfolding guessed
  header_is n t e =
      let f = taken_from_lem d v (exact_types d n v) t e in
      let z = stops d (v + suc most_type_bytes) n v start in
      let end : v + t ≡ reach d (exact_types d n v) = omega (arith, f.1, z.counts) in
      let same = types_to_end d (v + suc most_type_bytes) n v t start f.0 (omega (arith, f.1, f.2, z.counts)) (omega (arith, f.1)) in
      (rw end same.0, end, omega (arith, z.inside), rw end same.1)

-- ---- behind the made-up bytes stands what the header makes
columns_of_lem : {a b : Found} → hit a ≡ hit b → a.columns ≡ b.columns
columns_of_lem {a} {b} e = let z : a ≡ b = cc in ap (λ (q : Found). q.columns) z

behind : (k : ℕ) (x : Found) (t : Tried) → without k (longer k t) ≡ hit x → (y : Found) × (t ≡ hit y) × (y.columns ≡ x.columns)
behind k x miss e = never e
behind k x (hit y) e = go (leb (k + y.consumed) most_bytes) e
  where
    go : (b : Bool) → without k (cond b (hit (record { consumed = k + y.consumed; matched = y.matched; columns = moved k y.columns; padded = y.padded })) miss) ≡ hit x
        → (z : Found) × (hit y ≡ hit z) × (z.columns ≡ x.columns)
    go false e = never e
    go true e = (y, refl, sym (back_moved k y.columns) ∙ columns_of_lem e)

-- THE LAW: the types of a row that was rebuilt take so many bytes, which are there, and make a row of the bytes from v on with its columns
pub record RebuiltFrom (how : Rebuilding) (d hints : List ℕ) (v : ℕ) (x : Found) : Type 0 where
  pub types : ℕ
  pub guess : guessed how d (length hints) v ≡ takes types
  pub fits : types ≤ length d - v
  pub found : Found
  pub made : given (drop v d) hints 0 types ≡ hit found
  pub same : found.columns ≡ x.columns

pub rebuilt_from_lem : (how : Rebuilding) (d hints : List ℕ) (v : ℕ) (x : Found) → v ≤ length d → 1 ≤ length hints → length hints ≤ most_by how → rebuilt how d hints v ≡ hit x
    → RebuiltFrom how d hints v x
rebuilt_from_lem how d hints v x start some few e = go (guessed how d (length hints) v) refl
  where
    go : (g : Guess) → guessed how d (length hints) v ≡ g → RebuiltFrom how d hints v x
    go no_header g = never (sym (rebuilt_none how d hints v g) ∙ e)
    go (takes t) g =
        let small = guess_small d v start how (length hints) t some few g in
        by_order (length d - v) t (λ out. never (sym (rebuilt_cut d hints v start t small.0 small.1 how g out) ∙ e))
        (λ in'.
        let b = behind (own_bytes t) x (given (drop v d) hints 0 t)
        (sym (rebuilt_with_lem d hints v start t small.0 small.1 how g ∙ behind_made d hints v start t small.0 small.1 in') ∙ e) in
        record { types = t; guess = g; fits = in'; found = b.0; made = b.1; same = b.2 })
