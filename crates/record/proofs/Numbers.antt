-- Going by cases; numbers made of groups of bits, over the group's width; and two's complement.
-- Assumes nothing.
use Prim.Native.Nat.{ℕ, zero, suc, ◌+◌, ◌-◌, ◌*◌, ◌/◌, ◌^◌, ◌<◌, ◌≤◌}
use mathlib.Core.Path.{◌≡◌, refl, sym, ◌∙◌, ap}
use mathlib.Core.Bool.{Bool, true, false, cond}
use mathlib.Core.Logic.{by_cases}
use native.Mathlib.Decide.{dec_lt}
use native.Mathlib.Nat.{lt_of_lt_of_le, mul-add, mul-one, add-mul, one-mul, mul-le-mul_left, mul-le-mul_right, zero-add}
use native.Mathlib.Omega.{arith}
use lib.IntN.{pos, negsuc, ◌-ℤ◌}
use mir.Syntax.{w64}
use mir.Val.{bool_byte, to_z}
use mir.Facts.{to_z_pos, to_z-neg}
use lib.Pow.{pow_mono, pow-add}
use borrow.Author.Tests.{lt-ltb, le-ltb}
use Rattle.record.specs.Value.{twos_complement}

-- a case for a below b, and one for b at most a
pub by_order : {C : Type 0} (a b : ℕ) → (a < b → C) → (b ≤ a → C) → C
by_order a b below above = by_cases (dec_lt a b) below (λ h. above (omega arith))

-- and one for each answer of a test
pub by_test : {C : Type 0} (b : Bool) → (b ≡ true → C) → (b ≡ false → C) → C
by_test true f g = f refl
by_test false f g = g refl

-- what a function makes of either way of a test, it makes of the test
pub tested : {A B : Type 0} (f : A → B) (b : Bool) (x y : A) {u v : B} → f x ≡ u → f y ≡ v → f (cond b x y) ≡ cond b u v
tested f true x y p q = p
tested f false x y p q = q

-- a bool as a number
pub bool_word : (b : Bool) → bool_byte b ≡ cond b 1 0
bool_word true = refl
bool_word false = refl

-- n groups of w bits are no more than m of them
pub at_most : (w m : ℕ) {n v : ℕ} → n ≤ m → v < 2 ^ (w * n) → v < 2 ^ (w * m)
at_most w m {n} {v} h lt = lt_of_lt_of_le lt (pow_mono (mul-le-mul_left w h))

-- one group more
pub one_more : (w n v b : ℕ) → v < 2 ^ (w * n) → b < 2 ^ w → v * 2 ^ w + b < 2 ^ (w * (n + 1))
one_more w n v b lt h =
    let e : 2 ^ (w * n + w) ≡ 2 ^ (w * n) * 2 ^ w = pow-add 2 (w * n) w in
    let i : w * (n + 1) ≡ w * n + w = rw (mul-add, mul-one) in
    let m : (v + 1) * 2 ^ w ≤ 2 ^ (w * n) * 2 ^ w = mul-le-mul_right (2 ^ w) (omega arith) in
    let d : (v + 1) * 2 ^ w ≡ v * 2 ^ w + 2 ^ w = rw (add-mul, one-mul) in
    rw (i, e) (omega arith)

-- v - w and -1 - k, as programs write negative numbers
pub below_zero : (v w : ℕ) → v < w → pos v -ℤ pos w ≡ negsuc (w - suc v)
below_zero v zero h = absurd (omega arith)
below_zero v (suc w) h = simp (lt-ltb v (suc w) h)

pub minus_one : (k : ℕ) → negsuc 0 -ℤ pos k ≡ negsuc k
minus_one zero = refl
minus_one (suc k) = ap (λ (n : ℕ). negsuc (suc n)) (zero-add k)

-- two's complement of numbers below `whole`, two to the width
module _ (bits whole v : ℕ) (two : whole ≡ 2 ^ bits) where
  pub below_half : v < whole / 2 → twos_complement bits v ≡ pos v
  unfolding twos_complement
  below_half h = simp (lt-ltb (v + v) (2 ^ bits) (omega arith))

  pub from_half : 0 < bits → whole / 2 ≤ v → v < whole → twos_complement bits v ≡ negsuc (whole - suc v)
  unfolding twos_complement
  from_half some h lt =
      let i : bits ≡ bits - 1 + 1 = omega arith in
      let e : 2 ^ bits ≡ 2 ^ (bits - 1) * 2 = ap (2 ^◌) i ∙ pow-add 2 (bits - 1) 1 in
      simp (le-ltb (v + v) (2 ^ bits) (omega arith), lt-ltb v (2 ^ bits) (omega arith), two)

-- and a signed word of 64 bits is that of its bits
pub signed_word : (v : ℕ) → v < 2 ^ 64 → to_z w64 v ≡ twos_complement 64 v
signed_word v h =
    by_order v (2 ^ 63)
    (λ low. to_z_pos w64 low ∙ sym (below_half 64 (2 ^ 64) v refl (omega arith)))
    (λ high.
    let k : v ≡ 2 ^ 64 - suc (2 ^ 64 - suc v) = omega arith in
    ap (to_z w64) k ∙ to_z-neg w64 (2 ^ 64 - suc v) (omega arith) ∙ sym (from_half 64 (2 ^ 64) v refl (omega arith) (omega arith) h))
