-- The whole part of an f32 from 1 to 255, cut from its bits: they hold the number's 24 leading digits in units of 2 ^ -149, and how many digits are dropped.
-- Assumes nothing.
use mathlib.Core.Path.{◌≡◌, refl, sym, ◌∙◌, subst}
use mathlib.Core.Bool.{true, false, not}
use Prim.Native.Nat.{ℕ, ◌+◌, ◌-◌, ◌*◌, ◌/◌, ◌%◌, ◌^◌, ◌≤◌, ◌<◌}
use native.Mathlib.Nat.{le_trans, lt_of_not-le, not-le_of_lt, min-eq_left, min-eq_right, le-div_iff_mul-le, div-lt_iff_lt-mul, div-div-eq-div-mul, mul-div-mul_right}
use native.Mathlib.Omega.{arith}
use lib.IntN.{ℤ, pos}
use lib.Dec.{T, ltb}
use lib.Pow.{pow_pos, pow_mono, pow-add, shr-shr}
use lib.Ieee.{Float, nan, inf, fin, binary32, up, down, size, le, of_bits, to_bits, to_unsigned, is_nan}
use lib.Ieee.Digits.{size-lt, size_reaches, size-le}
use lib.Ieee.Fits.{down_pos, kept-lt}
use lib.Ieee.Order.{le_of_values}
use lib.Ieee.Positive.{above, above_of_le, le→cross}

-- ---- a test against a whole number bounds the whole part
-- the whole number n as a float
abbrev whole : ℕ → Float
whole n = fin false n (pos 0)

-- the whole part of m * 2 ^ e
abbrev part : ℕ → ℤ → ℕ
part m e = m * up e / down e

over : (n : ℕ) (x : Float) → T (ltb 0 n) → le (whole n) x ≡ true → T (above x)
over n x p h = above_of_le (whole n) x p (subst T (sym h) tt)

reached : (n m : ℕ) (e : ℤ) → T (ltb 0 n) → le (whole n) (fin false m e) ≡ true → n ≤ part m e
reached n m e p h =
    let c = le→cross (whole n) (fin false m e) p (over n (fin false m e) p h) (subst T (sym h) tt) in
    (le-div_iff_mul-le (down_pos e)).1 (omega arith)

missed : (n m : ℕ) (e : ℤ) → le (whole n) (fin false m e) ≡ false → part m e < n
missed n m e h =
    let v = le_of_values (whole n) (fin false m e) n 1 (m * up e) (down e) (pow_pos 0) (down_pos e) (refl, omega arith) (refl, refl) in
    (div-lt_iff_lt-mul (down_pos e)).1 (lt_of_not-le (λ (g : n * down e ≤ m * up e). subst T h (v (omega arith))))

-- ---- the two ends: 255 and more, an infinity with them; and less than 1, a NaN with them
pub most : (x : Float) → le (of_bits binary32 0x437f0000) x ≡ true → to_unsigned 8 x ≡ 255
unfolding of_bits to_unsigned
most nan h = absurd (over 255 nan tt h)
most (inf true) h = absurd (over 255 (inf true) tt h)
most (inf false) h = refl
most (fin true m e) h = absurd (over 255 (fin true m e) tt h)
most (fin false m e) h = min-eq_right (reached 255 m e tt h)

pub least : (x : Float) → le (of_bits binary32 0x3f800000) x ≡ false → to_unsigned 8 x ≡ 0
unfolding of_bits to_unsigned le
least nan h = refl
least (inf true) h = refl
least (inf false) h = absurd (subst T h tt)
least (fin true m e) h = refl
least (fin false m e) h = omega (arith, missed 1 m e h)

-- ---- between them
-- what the bits b give where w is the whole part: a shift that is in range, and w
pub record Cut (b w : ℕ) : Type 0 where
  pub low : 127 ≤ b / 0x800000
  pub high : b / 0x800000 ≤ 134
  pub shifted : (b % 0x800000 + 0x800000) / 2 ^ (150 - b / 0x800000) ≡ w

-- how many digits of n are dropped: all but the 24 leading ones
abbrev dropped : ℕ → ℕ
dropped n = size n - 24

-- the bits of n units, of which 2 ^ 149 make 1
units_cut : (n w : ℕ) → n / 2 ^ 149 ≡ w → 1 ≤ w → w < 256 → Cut (0 + dropped n * 0x800000 + n / 2 ^ dropped n) w
units_cut n w e l h =
    let k = dropped n in
    let b = 0 + k * 0x800000 + n / 2 ^ k in
    let from : 2 ^ 149 ≤ n = (le-div_iff_mul-le (pow_pos 149)).0 (rw (← e) at l) in
    let to : n < 2 ^ 157 = (div-lt_iff_lt-mul (pow_pos 149)).0 (rw (← e) at h) in
    let long : 150 ≤ size n = lt_of_not-le (λ (g : size n ≤ 149). not-le_of_lt (size-lt n) (le_trans (pow_mono g) from)) in
    let short : size n ≤ 157 = size-le n 157 to in
    let full : 0x800000 ≤ n / 2 ^ k = (le-div_iff_mul-le (pow_pos k)).1 (rw (pow-add 2 23 k) at (size_reaches n (23 + k) (omega arith))) in
    let kept : n / 2 ^ k < 0x1000000 = kept-lt 24 n in
    let field : b / 0x800000 ≡ k + 1 = omega arith in
    let digits : b % 0x800000 + 0x800000 ≡ n / 2 ^ k = omega arith in
    let all : k + (150 - (k + 1)) ≡ 149 = omega arith in
    record { low = omega arith; high = omega arith; shifted = rw (field, digits, shr-shr, all) e }

units_whole : (m : ℕ) (e : ℤ) → m * up e * 2 ^ 149 / down e / 2 ^ 149 ≡ part m e
units_whole m e = div-div-eq-div-mul (m * up e * 2 ^ 149) (down e) (2 ^ 149) ∙ mul-div-mul_right (m * up e) (down e) (pow_pos 149)

pub between : (x : Float) → le (of_bits binary32 0x437f0000) x ≡ false → le (of_bits binary32 0x3f800000) x ≡ true → Cut (to_bits binary32 x) (to_unsigned 8 x)
unfolding of_bits to_bits to_unsigned le
between nan h l = absurd (over 1 nan tt l)
between (inf true) h l = absurd (over 1 (inf true) tt l)
between (inf false) h l = absurd (subst T h tt)
between (fin true m e) h l = absurd (over 1 (fin true m e) tt l)
between (fin false m e) h l =
    let q : part m e ≤ 255 = omega (arith, missed 255 m e h) in
    rw min-eq_left (units_cut (m * up e * 2 ^ 149 / down e) (part m e) (units_whole m e) (reached 1 m e tt l) (omega arith))

pub no_nan : (x : Float) → le (of_bits binary32 0x3f800000) x ≡ true → T (not (is_nan x))
unfolding of_bits is_nan
no_nan nan h = over 1 nan tt h
no_nan (inf s) h = tt
no_nan (fin s m e) h = tt
