-- The cases of `varint_from`, each from facts on the numbers, and induction over a varint's bytes.
-- Assumes nothing.
use Rattle.std.specs.Prelude.{None}
use Prim.Native.Nat.{ℕ, zero, suc, ◌+◌, ◌-◌, ◌*◌, ◌%◌, ◌<◌, ◌≤◌}
use mathlib.Core.Path.{◌≡◌}
use mathlib.Core.List.{List}
use lib.ListN.{length, get_or}
use borrow.Author.Tests.{lt-ltb, le-ltb}
use Rattle.record.specs.Varint.{varint_from, ended}
use Rattle.record.specs.Varint.{Varint}
use Rattle.record.proofs.Numbers.{by_order}

pub at_end : (s : List ℕ) (at v k : ℕ) → length s ≤ at → varint_from s at v k ≡ None
unfolding varint_from
at_end s at v zero h = simp (le-ltb at (length s) h)
at_end s at v (suc k) h = simp (le-ltb at (length s) h)

-- what a byte of seven bits leaves behind it
abbrev pub grown : List ℕ → ℕ → ℕ → ℕ
grown s at v = v * 128 + get_or s at 0 % 128

module _ (s : List ℕ) (at v k : ℕ) (inside : at < length s) where
  pub at_ninth : varint_from s at v 0 ≡ ended (v * 256 + get_or s at 0) 9 (at + 1)
  unfolding varint_from
  at_ninth = simp (lt-ltb at (length s) inside)

  pub at_last : get_or s at 0 < 128 → varint_from s at v (suc k) ≡ ended (v * 128 + get_or s at 0) (8 - k) (at + 1)
  unfolding varint_from
  at_last h = simp (lt-ltb at (length s) inside, lt-ltb (get_or s at 0) 128 h)

  pub at_more : 128 ≤ get_or s at 0 → varint_from s at v (suc k) ≡ varint_from s (at + 1) (grown s at v) k
  unfolding varint_from
  at_more h = simp (lt-ltb at (length s) inside, le-ltb (get_or s at 0) 128 h)

-- what holds at each of the four ways to go on holds of every varint
module _ (s : List ℕ) (P : ℕ → ℕ → ℕ → Varint → Type 0)
    (end : (at v k : ℕ) → length s ≤ at → P at v k None)
    (ninth : (at v : ℕ) → at < length s → P at v 0 (ended (v * 256 + get_or s at 0) 9 (at + 1)))
    (last : (at v k : ℕ) → at < length s → get_or s at 0 < 128 → P at v (suc k) (ended (v * 128 + get_or s at 0) (8 - k) (at + 1)))
    (more : (at v k : ℕ) → at < length s → 128 ≤ get_or s at 0 → (x : Varint) → P (at + 1) (grown s at v) k x → P at v (suc k) x) where
  pub over : (at v k : ℕ) → P at v k (varint_from s at v k)
  over at v zero =
      by_order at (length s) (λ h. rw (at_ninth s at v 0 h) (ninth at v h)) (λ out. rw (at_end s at v 0 out) (end at v 0 out))
  over at v (suc k) =
      by_order at (length s)
      (λ h.
      by_order (get_or s at 0) 128
      (λ low. rw (at_last s at v k h low) (last at v k h low))
      (λ high. rw (at_more s at v k h high) (more at v k h high _ (over (at + 1) (grown s at v) k))))
      (λ out. rw (at_end s at v (suc k) out) (end at v (suc k) out))
