-- Bytes below 2 one behind the other: none is a header's length, so each is an attempt that fails and one header byte.
-- Assumes nothing.
use Prim.Native.Nat.{ℕ, zero, suc, ◌+◌, ◌-◌, ◌≤◌, ◌<◌}
use mathlib.Core.Path.{◌≡◌, refl}
use mathlib.Core.List.{List}
use native.Mathlib.Omega.{arith}
use lib.ListN.{length, get_or, take, length-take}
use lib.Seq.{get_or-take}
use Rattle.filter.specs.Inner.{LowTo, PassedOverIs}
use Rattle.filter.proofs.Headers.{too_low}
use Rattle.filter.proofs.Laws.{passed_none, passed_one}
use Rattle.record.proofs.Numbers.{by_order}

module _ (s hints : List ℕ) (start last : ℕ) (in' : last ≤ length s) where
  each_passed : (k : ℕ) → start + k ≤ last → ((q : ℕ) → start ≤ q → q < start + k → get_or s q 0 < 2) → PassedOverIs s hints start last (start + k) k
  each_passed zero le low = let e : start + 0 ≡ start = omega arith in rw e (passed_none s hints start last)
  each_passed (suc k) le low =
      let o = start + k in
      let e : start + suc k ≡ o + 1 = omega arith in
      let f : suc k ≡ k + 1 = omega arith in
      let two = low o (omega arith) (omega arith) in
      rw (e, f)
      (passed_one s hints start last o k (each_passed k (omega arith) (λ q lo hi. low q lo (omega arith))) 1 (omega arith)
      (too_low s hints o (get_or s o 0) (omega arith) refl (omega arith) two))

  -- THE LAW: up to where they end, in what stands before `last`
  pub low_passed : (to : ℕ) → LowTo (take (last - 0) s) start to → PassedOverIs s hints start last to (to - start)
  low_passed to run =
      let len = length-take (last - 0) s in
      let e : start + (to - start) ≡ to = omega (arith, run.behind) in
      by_order start last
      (λ lt.
      let le = run.near (omega arith) in
      rw e at (each_passed (to - start) (omega arith) (λ q lo hi. rw (get_or-take (last - 0) s q 0 (omega arith)) at (run.low q lo (omega arith)))))
      (λ ge.
      let none : to ≡ start = run.early (omega arith) in
      let z : start - start ≡ 0 = omega arith in
      rw (none, z) (passed_none s hints start last))
