-- Runs of bytes from 128 up, and varints in them.
-- Assumes nothing.
use Prim.Native.Nat.{ℕ, ◌+◌, ◌-◌, ◌≤◌, ◌<◌, min}
use mathlib.Core.Path.{◌≡◌}
use mathlib.Core.List.{List}
use native.Mathlib.Omega.{arith}
use lib.ListN.{length, get_or}
use Rattle.filter.specs.Inner.{Begins, IsHigh}
use Rattle.filter.specs.declared.inner.high.High.{High}
use Rattle.record.proofs.Laws.{varint_through}
use Rattle.record.proofs.Numbers.{by_order}
use Rattle.record.specs.Places.{stop_of}
use Rattle.record.specs.Varint.{varint_at}

-- where a varint ends that starts in a run
pub run_varint : (s : List ℕ) (run : High) → IsHigh s run → (at : ℕ) → run.from ≤ at → at < run.to
    → stop_of s (varint_at s at) ≡ min (min (at + 9) (run.to + 1)) (length s)
run_varint s run h at lo hi =
    varint_through s at run.to hi h.inside (λ p l m. h.high p (omega arith) m) (λ in'. h.low_behind (omega arith) in')

-- a byte below 128 is what a run begins behind
pub begins_behind : (s : List ℕ) (p at : ℕ) → 0 < at → at ≤ p → get_or s (at - 1) 0 < 128 → ((q : ℕ) → at ≤ q → q ≤ p → 128 ≤ get_or s q 0) → Begins s p (at - 1 + 1)
begins_behind s p at some le low all =
    let e : at - 1 + 1 ≡ at = omega arith in
    rw e (record { before = le; high = all; low = λ _. low })

-- one step of looking for an end
module _ (s : List ℕ) (p at : ℕ) where
  pub begins_here : 128 ≤ get_or s p 0 → (q : ℕ) → p ≤ q → q ≤ p → 128 ≤ get_or s q 0
  begins_here h q lo hi = let e : q ≡ p = omega arith in rw e h

  pub one_lower : 0 < at → 128 ≤ get_or s (at - 1) 0 → ((q : ℕ) → at ≤ q → q ≤ p → 128 ≤ get_or s q 0) → (q : ℕ) → at - 1 ≤ q → q ≤ p → 128 ≤ get_or s q 0
  one_lower some h all q lo hi = by_order q at (λ lt. let e : q ≡ at - 1 = omega arith in rw e h) (λ ge. all q ge hi)
