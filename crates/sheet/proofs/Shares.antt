-- A share, where some column is suited, lies above 0 and is at most 1: it is the fraction s / c, rounded once, and rounding keeps the order.
-- Assumes nothing.
use mathlib.Core.Path.{◌≡◌, ◌∙◌}
use mathlib.Core.Bool.{true, false}
use Prim.Native.Nat.{ℕ, ◌*◌, ◌≤◌, ◌<◌}
use native.Mathlib.Nat.{mul_comm, mul_assoc, mul_left_comm, mul-pos}
use native.Mathlib.Omega.{arith}
use borrow.Author.Tests.{ne_eqb}
use lib.Dec.{T, ltb→lt}
use lib.Ieee.{Float, nan, inf, fin, Format, binary32, round, div, le, of_bits, of_int}
use lib.Ieee.Back.{round_whole}
use lib.Ieee.Exact.{HasValue}
use lib.Ieee.Order.{round_mono}
use lib.Ieee.Positive.{num, den, positive, den_pos, positive_of_value, value→cross, between}
use lib.Ieee.Scale.{round_same}
use Rattle.sheet.specs.Confidence.{one, share}
use Rattle.sheet.specs.Limits.{most_columns}

-- a quotient of two positive values is one fraction, rounded
div_is : (f : Format) (x y : Float) → T (positive x) → T (positive y) → div f x y ≡ round f false (num x * den y) (num y * den x)
unfolding div
div_is f nan y p q = absurd p
div_is f (inf s) y p q = absurd p
div_is f (fin true m e) y p q = absurd p
div_is f (fin false m e) nan p q = absurd q
div_is f (fin false m e) (inf s) p q = absurd q
div_is f (fin false m e) (fin true n d) p q = absurd q
div_is f (fin false m e) (fin false n d) p q = rw (ne_eqb n 0 (λ z. omega (arith, ltb→lt 0 n q)))

-- and of two whole numbers it is theirs
quotient : (f : Format) (x y : Float) (s c : ℕ) → 0 < s → 0 < c → HasValue x false s 1 → HasValue y false c 1 → div f x y ≡ round f false s c
quotient f x y s c S C v w =
    let p : num x ≡ s * den x = omega (arith, value→cross x s 1 v) in
    let q : num y ≡ c * den y = omega (arith, value→cross y c 1 w) in
    let d : 0 < num y * den x = rw q (mul-pos (mul-pos C (den_pos y)) (den_pos x)) in
    div_is f x y (positive_of_value x s 1 v S) (positive_of_value y c 1 w C)
    ∙ round_same f false (num x * den y) (num y * den x) s c d C (rw (p, q) (simp (mul_assoc, mul_comm, mul_left_comm)))

module _ (s c : ℕ) (some : 0 < s) (within : s ≤ c) (few : c ≤ most_columns) where
  share_is : share s c ≡ round binary32 false s c
  unfolding share of_int
  share_is =
      quotient binary32 (round binary32 false s 1) (round binary32 false c 1) s c some (omega arith)
      (round_whole binary32 false s (omega arith)) (round_whole binary32 false c (omega arith))

  pub share_most : T (le (share s c) one)
  unfolding of_bits round
  share_most = rw share_is (round_mono binary32 s c 1 1 (omega arith) (omega arith) (omega arith))

  -- one of the most columns is the smallest share
  pub share_above : T (positive (share s c))
  unfolding of_bits round
  share_above =
      between (round binary32 false 1 most_columns) (share s c) one tt tt
      (rw share_is (round_mono binary32 1 most_columns s c (omega arith) (omega arith) (omega arith))) share_most
