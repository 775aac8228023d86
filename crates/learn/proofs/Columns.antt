-- Laws of the types of a column: what an entry gives, and the types of all rows, written one by one.
-- Assumes nothing.
use Rattle.std.specs.Prelude.{None, Some}
use Prim.Native.Nat.{ℕ, zero, suc, ◌+◌, ◌-◌, ◌*◌, ◌≤◌, ◌<◌}
use mathlib.Core.Path.{◌≡◌, refl, sym, ap, ◌∙◌}
use mathlib.Core.Bool.{Bool, true, false, not}
use mathlib.Core.List.{List, [], ◌∷◌, ◌++◌, append-nil, append_assoc}
use native.Mathlib.Nat.{mul-zero, sub-zero, mul-le-mul_left}
use native.Mathlib.Numerals.{add-one}
use native.Mathlib.Omega.{arith}
use borrow.Author.Tests.{lt-ltb, le-ltb}
use lib.ListN.{length, take, drop, set, length-take}
use lib.Seq.{drop-drop, take-suc-set}
use Rattle.groups.specs.Rows.{rows_in}
use Rattle.groups.proofs.Laws.{rows_none, rows_next}
use Rattle.record.proofs.Laws.{long_value, good_body}
use Rattle.record.specs.Entry.{body_state, unused_state, bad_entry, read_entry}
use Rattle.record.specs.declared.entry.Entry.{Entry}
use Rattle.record.specs.declared.record.Value.{Value}
use Rattle.sheet.specs.Limits.{words_per_entry}
use Rattle.sheet.specs.Sheet.{entry_in, entries_in}
use Rattle.learn.specs.Inner.{OwnType, PutType}
use Rattle.learn.specs.Learn.{given, given_at, column_types}
use Rattle.learn.specs.Types.{value_type}

module _ (s : List ℕ) (e : Entry) where
  pub given_unused : unused_state ≤ e.state → given s e ≡ []
  unfolding given
  given_unused h = simp (le-ltb e.state unused_state h)

  pub given_value : {v : Value} → e.state < unused_state → read_entry e s ≡ Some v → given s e ≡ value_type v ∷ []
  unfolding given
  given_value h r = simp (lt-ltb e.state unused_state h, r)

  pub given_bad : e.state < unused_state → read_entry e s ≡ None → given s e ≡ []
  unfolding given
  given_bad h r = simp (lt-ltb e.state unused_state h, r)

  -- a text or a blob gives the type that it has
  pub given_own : e.state ≡ body_state → 12 ≤ e.kind → bad_entry e s ≡ false → given s e ≡ e.kind ∷ []
  unfolding value_type
  given_own there big good =
      let g = good_body e s there good in
      long_value e.kind s e.start e.len big g.0
      (λ k v. given_value (omega arith) (g.1 ∙ ap Some v) ∙ ap (λ t. t ∷ []) (sym k))
      (λ k v. given_value (omega arith) (g.1 ∙ ap Some v) ∙ ap (λ t. t ∷ []) (sym k))

-- whether it surely is one
pub own_type : (s : List ℕ) (e : Entry) (bad : Bool) → e.state ≡ body_state → 12 ≤ e.kind → bad ≡ bad_entry e s → OwnType s e (not bad)
own_type s e true there big h = tt
own_type s e false there big h = given_own s e there big (sym h)

pub put_none : {types kinds : List ℕ} {n : ℕ} → types ≡ [] → PutType types n kinds n kinds
put_none {types} {kinds} {n} e = record { most = omega arith; list = rw e (sym (append-nil (take n kinds))) }

pub put_one : {types kinds : List ℕ} {n v : ℕ} → types ≡ v ∷ [] → n < length kinds → PutType types n kinds (n + 1) (set kinds n v)
put_one {types} {kinds} {n} {v} e h = record { most = omega arith; list = rw (e, add-one) (take-suc-set kinds n v h) }

module _ (s : List ℕ) where
  given_at_lem : (c width : ℕ) (words : List ℕ) → c < width → given_at s c (entries_in width words) ≡ given s (entry_in (drop (words_per_entry * c) words))
  unfolding given_at
  given_at_lem c zero words h = absurd (omega arith)
  given_at_lem zero (suc w) words h = refl
  given_at_lem (suc c) (suc w) words h =
      let e : words_per_entry * suc c ≡ words_per_entry + words_per_entry * c = omega arith in
      given_at_lem c w (drop words_per_entry words) (omega arith)
      ∙ rw (e, drop-drop (words_per_entry * c) words_per_entry words)

pub taken_most : {n m : ℕ} (l : List ℕ) → n ≤ m → length (take n l) ≤ m
taken_most {n} {m} l h = rw (length-take n l) (omega arith)

-- where the entry of a column stands
pub entry_place : (width rows i c len : ℕ) → rows * (words_per_entry * width) ≤ len → i < rows → c < width → words_per_entry * width * i + words_per_entry * c + words_per_entry ≤ len
entry_place width rows i c len h k j =
    let z : i + 1 ≤ rows = omega arith in
    omega (arith, mul-le-mul_left (words_per_entry * width) z)

-- the first n types of a list are those of the rows before index i
pub record Gathered (s words : List ℕ) (width rows c i n : ℕ) (kinds : List ℕ) : Type 0 where
  pub few : n ≤ i
  pub types : take n kinds ++ column_types s c (rows_in (rows - i) width (drop (words_per_entry * width * i) words)) ≡ column_types s c (rows_in rows width words)

module _ {s words : List ℕ} {width rows c : ℕ} where
  pub gathered_none : {kinds : List ℕ} → Gathered s words width rows c 0 0 kinds
  gathered_none = record { few = omega arith; types = simp (mul-zero, sub-zero) }

  module _ {i n : ℕ} {kinds : List ℕ} (g : Gathered s words width rows c i n kinds) where
    pub gathered_more : {r : ℕ} {new : List ℕ} → i < rows → c < width →
        PutType (given s (entry_in (drop (words_per_entry * width * i + words_per_entry * c) words))) n kinds r new →
        Gathered s words width rows c (i + 1) r new
    unfolding column_types
    gathered_more {r} {new} more inside put =
        let at = words_per_entry * width * i in
        let on : words_per_entry * width * (i + 1) ≡ at + words_per_entry * width = omega arith in
        let e : rows - i ≡ suc (rows - (i + 1)) = omega arith in
        let here : given_at s c (entries_in width (drop at words)) ≡ given s (entry_in (drop (at + words_per_entry * c) words)) =
        given_at_lem s c width (drop at words) inside ∙ rw (drop-drop (words_per_entry * c) at words) in
        record {
          few = omega (arith, g.few, put.most);
          types = rw (on, put.list, append_assoc, ← here) (rw (rows_next words width at (rows - i) (rows - (i + 1)) e) at g.types);
        }

    pub gathered_all : rows ≤ i → take n kinds ≡ column_types s c (rows_in rows width words)
    unfolding column_types
    gathered_all h =
        let z : rows - i ≡ 0 = omega arith in
        sym (append-nil (take n kinds)) ∙ rw (z, rows_none width (drop (words_per_entry * width * i) words)) at g.types
