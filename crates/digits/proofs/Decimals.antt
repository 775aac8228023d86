-- Decimal digits: how many there are at the most, and that they are the library's.
-- Assumes nothing.
use Rattle.std.proofs.Common.{◌≡◌, ℕ, zero, suc, ◌+◌, ◌-◌, ◌/◌, ◌%◌, ◌^◌, ◌≤◌, ◌<◌, [], ◌∷◌, ◌++◌, length, refl, arith, length-append}
use native.Mathlib.Nat.{pow-suc}
use borrow.Author.Tests.{lt-ltb, le-ltb}
use Rattle.io.specs.Digits.{last_digits, IsDigitCount}
use Rattle.digits.specs.Digits.{most_digits, decimal_from, decimal}
use Rattle.record.proofs.Numbers.{by_order}

last_digit : (f n : ℕ) → n < 10 → decimal_from (suc f) n ≡ (48 + n % 10) ∷ []
unfolding decimal_from
last_digit f n h = simp (lt-ltb n 10 h)

more_digits : (f n : ℕ) → 10 ≤ n → decimal_from (suc f) n ≡ decimal_from f (n / 10) ++ (48 + n % 10) ∷ []
unfolding decimal_from
more_digits f n h = simp (le-ltb n 10 h)

digits_few : (f n : ℕ) → length (decimal_from f n) ≤ f
unfolding decimal_from
digits_few zero n = omega arith
digits_few (suc f) n =
    by_order n 10
    (λ one. rw (last_digit f n one) (omega arith))
    (λ more. rw (more_digits f n more, length-append) (omega (arith, digits_few f (n / 10))))

-- THE LAW: a word has twenty digits at the most
pub decimal_few : (n : ℕ) → length (decimal n) ≤ most_digits
unfolding decimal
decimal_few n = digits_few most_digits n

-- the last k + 1 digits are all of them where there are no more
digits_same : (k f n : ℕ) → k ≤ f → n < 10 ^ suc k → (0 < k → 10 ^ k ≤ n) → last_digits 10 (suc k) n ≡ decimal_from (suc f) n
digits_same zero f n few low high =
    let one : n < 10 = omega arith in
    rw (last_digit f n one, lt-ltb (n % 10) 10 (omega arith)) refl
digits_same (suc k) zero n few low high = absurd (omega arith)
digits_same (suc k) (suc f) n few low high =
    let p = pow-suc 10 (suc k) in
    let q = pow-suc 10 k in
    let more : 10 ≤ n = omega (arith, high (omega arith)) in
    let rest = digits_same k f (n / 10) (omega arith) (omega arith) (λ some. omega (arith, high (omega arith))) in
    rw (more_digits (suc f) n more, lt-ltb (n % 10) 10 (omega arith), rest) refl

-- THE LAW: the library's digits are these
pub decimal_is : (n k : ℕ) → k ≤ most_digits → IsDigitCount 10 1 n k → last_digits 10 k n ≡ decimal n
unfolding decimal
decimal_is n zero few count = absurd (omega (arith, count.0))
decimal_is n (suc k) few count = let e : suc k - 1 ≡ k = omega arith in digits_same k 19 n (omega arith) count.1 (λ some. rw e at (count.2 (omega arith)))
