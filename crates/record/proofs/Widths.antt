-- The width of a number's shortest form: n groups of seven bits hold the number just where that is at most n.
-- Assumes nothing.
use Prim.Native.Nat.{ℕ, suc, ◌+◌, ◌*◌, ◌/◌, ◌^◌, ◌<◌, ◌≤◌}
use mathlib.Core.Path.{◌≡◌}
use native.Mathlib.Nat.{pow-suc}
use native.Mathlib.Omega.{arith}
use lib.Count.{count_leading_zeros, leading_top, leading_length}
use lib.Pow.{pow_mono}
use borrow.Author.Tests.{lt-ltb, le-ltb}
use Rattle.record.specs.Varint.{highest_bit, width_of}
use Rattle.record.proofs.Numbers.{by_order}

module _ (v : ℕ) where
  pub width_low : v < 2 ^ 56 → width_of v ≡ 1 + highest_bit v / 7
  unfolding width_of
  width_low h = simp (lt-ltb v (2 ^ 56) h)

  pub width_nine : 2 ^ 56 ≤ v → width_of v ≡ 9
  unfolding width_of
  width_nine h = simp (le-ltb v (2 ^ 56) h)

  pub width_some : 1 ≤ width_of v
  width_some = by_order v (2 ^ 56) (λ h. omega (arith, width_low h)) (λ h. omega (arith, width_nine h))

  -- one that is not 0 has a highest bit
  pub zeros_few : 0 < v → v < 2 ^ 56 → count_leading_zeros 64 v ≤ 63
  zeros_few some h =
      let x : 2 ^ 56 ≤ 2 ^ 64 = pow_mono {i = 56} {j = 64} (omega arith) in
      omega (arith, (leading_top 64 v some (omega arith)).1)

  -- a number of m bits is below 2^k just where m is at most k
  bits_most : (m k : ℕ) → 2 ^ m ≤ 2 * v + 1 → v < 2 ^ k → m ≤ k
  bits_most m k l h = by_order k m (λ g. let p : 2 ^ suc k ≤ 2 ^ m = pow_mono g in absurd (omega (arith, pow-suc 2 k))) (λ le. le)

  bits_least : (m k : ℕ) → v < 2 ^ m → 2 ^ k ≤ v → k < m
  bits_least m k h l = by_order k m (λ lt. lt) (λ g. let p : 2 ^ m ≤ 2 ^ k = pow_mono g in absurd (omega arith))

  module _ (n : ℕ) where
    -- THE LAW: a number that n groups of seven bits hold takes at most n bytes,
    pub width_most : 1 ≤ n → n ≤ 8 → v < 2 ^ (7 * n) → width_of v ≤ n
    width_most some few h =
        let w : 2 ^ (7 * n) ≤ 2 ^ 56 = pow_mono {i = 7 * n} {j = 56} (omega arith) in
        let x : 2 ^ 56 ≤ 2 ^ 64 = pow_mono {i = 56} {j = 64} (omega arith) in
        let b = leading_length 64 v (omega arith) in
        omega (arith, width_low (omega arith), bits_most b.0 (7 * n) b.3 h, b.1)

    -- and one that they do not hold takes more
    pub width_least : n ≤ 8 → 2 ^ (7 * n) ≤ v → n < width_of v
    width_least few h =
        by_order v (2 ^ 56)
        (λ low.
        let x : 2 ^ 56 ≤ 2 ^ 64 = pow_mono {i = 56} {j = 64} (omega arith) in
        let b = leading_length 64 v (omega arith) in
        omega (arith, width_low low, bits_least b.0 (7 * n) b.2 h, b.1))
        (λ high. omega (arith, width_nine high))

  -- none takes more than nine
  pub width_nine_most : width_of v ≤ 9
  width_nine_most = by_order v (2 ^ 56) (λ low. omega (arith, width_most 8 (omega arith) (omega arith) low)) (λ high. omega (arith, width_nine high))
