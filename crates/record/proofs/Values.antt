-- The cases of the definitions on values, each from facts on the numbers.
-- Assumes nothing.
use Rattle.std.specs.Prelude.{None, Some}
use Prim.Native.Nat.{ℕ, zero, suc, ◌+◌, ◌*◌, ◌%◌, ◌≤◌, ◌<◌}
use mathlib.Core.Path.{◌≡◌, refl, sym, ap, ◌∙◌}
use mathlib.Core.Bool.{true, false, cond, or-true}
use mathlib.Core.List.{List}
use native.Mathlib.Omega.{arith}
use lib.Dec.{leb, ltb, eqb, lit<}
use lib.Ieee.{binary64, of_bits}
use lib.IntN.{ℤ}
use lib.ListN.{length, get_or}
use borrow.Author.Tests.{lt-ltb, le-ltb, le-leb, ne_eqb, leb-true, eqb-true, ltb-false}
use Rattle.std.proofs.lemmas.Option.{some_pair_parts}
use Rattle.record.specs.Value.{small_lengths, body_length, body_fits, big_endian, twos_complement, value_of, decode_at}
use Rattle.record.specs.Value.{Length}
use Rattle.record.specs.declared.record.Value.{Value}
use Rattle.record.specs.declared.record.Value.TheVariants.{Null, Int, Real, Text, Blob}
use Rattle.record.proofs.Numbers.{by_order, by_test}

-- types below 10 are as long as the table says
pub small_length_lem : (t n : ℕ) → t < 10 → body_length t ≡ Some n → n ≡ get_or small_lengths t 0
unfolding body_length
small_length_lem t n h e = let z : Some (get_or small_lengths t 0) ≡ Some n = simp (lt-ltb t 10 h) at e in cc

-- the table by ranges
pub below_five : (t : ℕ) → t < 5 → t ≡ get_or small_lengths t 0
below_five zero h = refl
below_five (suc zero) h = refl
below_five (suc (suc zero)) h = refl
below_five (suc (suc (suc zero))) h = refl
below_five (suc (suc (suc (suc zero)))) h = refl
below_five (suc (suc (suc (suc (suc t))))) h = absurd (omega arith)

pub six_seven : (t : ℕ) → 6 ≤ t → t < 8 → ◌≡◌ {A = ℕ} 8 (get_or small_lengths t 0)
six_seven t lo hi = by_order t 7 (λ lt. let e : t ≡ 6 = omega arith in rw e) (λ ge. let e : t ≡ 7 = omega arith in rw e)

pub eight_nine : (t : ℕ) → 8 ≤ t → t < 10 → ◌≡◌ {A = ℕ} 0 (get_or small_lengths t 0)
eight_nine t lo hi = by_order t 9 (λ lt. let e : t ≡ 8 = omega arith in rw e) (λ ge. let e : t ≡ 9 = omega arith in rw e)

-- ---- `body_fits`
module _ (t n : ℕ) (s : List ℕ) (at : ℕ) where
  -- of a type that is not 0, 8 or 9
  pub fits_by_place : (t ≡ 0 → ⊥) → (t ≡ 8 → ⊥) → (t ≡ 9 → ⊥) → body_fits t n s at ≡ leb (at + n) (length s)
  unfolding body_fits
  fits_by_place no0 no8 no9 = simp (ne_eqb t 0 no0, ne_eqb t 8 no8, ne_eqb t 9 no9)

  -- of any type
  pub fits_here : at + n ≤ length s → body_fits t n s at ≡ true
  unfolding body_fits
  fits_here h = simp (le-leb (at + n) (length s) h, or-true)

  pub fits_inside : body_length t ≡ Some n → body_fits t n s at ≡ true → at ≤ length s → at + n ≤ length s
  unfolding body_fits
  fits_inside l f h =
      by_test (eqb t 0) (constant 0 (lit< tt) refl) λ no0.
      by_test (eqb t 8) (constant 8 (lit< tt) refl) λ no8.
      by_test (eqb t 9) (constant 9 (lit< tt) refl) λ no9.
      leb-true (at + n) (length s) (rw (no0, no8, no9) at f)
    where
      constant : (k : ℕ) → k < 10 → get_or small_lengths k 0 ≡ 0 → eqb t k ≡ true → at + n ≤ length s
      constant k lt z e =
          let q : t ≡ k = eqb-true t k e in
          let m : n ≡ 0 = small_length_lem t n (rw q lt) l ∙ ap (λ (i : ℕ). get_or small_lengths i 0) q ∙ z in
          omega arith

  pub fits_not : body_fits t n s at ≡ false → length s < at + n
  fits_not f =
      by_order (length s) (at + n) (λ out. out) (λ inside. let z : ◌≡◌ {A = ℕ} 0 1 = cc (fits_here inside) in absurd (omega arith))

-- ---- `value_of`
-- THE LAW: what holds of each kind of value holds of the value of a type
pub value_cases : (P : Value → Type 0) (t : ℕ) (s : List ℕ) (at n : ℕ) → P Null → ((z : ℤ) → P (Int z)) →
    (t ≡ 7 → P (Real (of_bits binary64 (big_endian s at n)))) → (10 ≤ t → P (Blob at n)) → (10 ≤ t → P (Text at n)) → P (value_of t s at n)
unfolding value_of
value_cases P t s at n null int real blob text =
    by_test (eqb t 0) (λ h. rw h null) λ h. rw h
    (by_test (ltb t 7) (λ h. rw h (int _)) λ h. rw h
    (by_test (eqb t 7) (λ h. rw h (real (eqb-true t 7 h))) λ h. rw h
    (by_test (ltb t 10) (λ h. rw h (int _)) λ big.
    rw big
    (let ge = ltb-false t 10 big in
    by_test (eqb (t % 2) 0) (λ h. rw h (blob ge)) (λ h. rw h (text ge))))))

-- the types 1 to 6 are integers
pub value_integer : (t : ℕ) (s : List ℕ) (at n : ℕ) → 0 < t → t < 7 → value_of t s at n ≡ Int (twos_complement (8 * n) (big_endian s at n))
unfolding value_of
value_integer t s at n some h = simp (ne_eqb t 0 (λ e. omega arith), lt-ltb t 7 h)

-- past the table there are blobs and texts
pub value_past : (t : ℕ) (s : List ℕ) (at n : ℕ) → 10 ≤ t → value_of t s at n ≡ cond (eqb (t % 2) 0) (Blob at n) (Text at n)
unfolding value_of
value_past t s at n h =
    simp (ne_eqb t 0 (λ e. omega arith), le-ltb t 7 (omega arith), ne_eqb t 7 (λ e. omega arith), le-ltb t 10 h)

-- ---- `decode_at`
module _ (t : ℕ) (s : List ℕ) (at : ℕ) where
  pub decode_is : (n : ℕ) → body_length t ≡ Some n → body_fits t n s at ≡ true → decode_at t s at ≡ Some ((value_of t s at n), n)
  unfolding decode_at
  decode_is n l f = simp (l, f)

  pub decode_out : (n : ℕ) → body_length t ≡ Some n → body_fits t n s at ≡ false → decode_at t s at ≡ None
  unfolding decode_at
  decode_out n l f = simp (l, f)

  pub decode_none : body_length t ≡ None → decode_at t s at ≡ None
  unfolding decode_at
  decode_none l = simp l

  decoded_as : (l : Length) → body_length t ≡ l → (v : Value) (n : ℕ) → decode_at t s at ≡ Some (v, n) → (body_length t ≡ Some n) × (body_fits t n s at ≡ true) × (v ≡ value_of t s at n)
  decoded_as None l v n d = let z : ◌≡◌ {A = ℕ} 0 1 = cc (decode_none l) in absurd (omega arith)
  decoded_as (Some m) l v n d =
      by_test (body_fits t m s at)
      (λ f. let z = some_pair_parts _ _ _ _ (sym (decode_is m l f) ∙ d) in (cc, cc, cc))
      (λ f. let z : ◌≡◌ {A = ℕ} 0 1 = cc (decode_out m l f) in absurd (omega arith))

  -- what stands behind a value that was decoded
  pub decoded : (v : Value) (n : ℕ) → decode_at t s at ≡ Some (v, n) → (body_length t ≡ Some n) × (body_fits t n s at ≡ true) × (v ≡ value_of t s at n)
  decoded = decoded_as (body_length t) refl

  -- and behind none
  pub undecoded : (n : ℕ) → decode_at t s at ≡ None → body_length t ≡ Some n → length s < at + n
  undecoded n d l =
      by_test (body_fits t n s at)
      (λ f. let z : ◌≡◌ {A = ℕ} 0 1 = cc (decode_is n l f) in absurd (omega arith))
      (fits_not t n s at)
