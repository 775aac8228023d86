-- What other crates rest on: offsets that are passed over, one after the other.
-- Assumes nothing.
use Prim.Native.Nat.{ℕ, zero, suc, ◌+◌, ◌*◌, ◌≤◌, ◌<◌}
use mathlib.Core.Path.{◌≡◌, refl}
use mathlib.Core.List.{List}
use native.Mathlib.Nat.{zero-add}
use native.Mathlib.Omega.{arith}
use Rattle.attempt.specs.Places.{most_places}
use Rattle.record.proofs.Numbers.{by_order}
use Rattle.filter.specs.Inner.{IsHigh, MissAt, MissFrom, MissBetween, PassedOverIs}

-- no bytes are a run yet
pub no_run : (s : List ℕ) → IsHigh s (record { from = 0; to = 0 })
no_run s =
    record {
      inside = omega arith;
      high = λ q lo hi. absurd (omega arith);
      low_before = λ some _. absurd (omega arith);
      low_behind = λ some _. absurd (omega arith);
    }

module _ (s hints : List ℕ) (start : ℕ) where
  pub misses_none : MissBetween s hints start start 0
  misses_none = record { count = 0; to_is = omega arith; each_fails = refl; few = omega arith }

  pub misses_one : (to read r : ℕ) → MissBetween s hints start to read → MissAt s hints to r → MissBetween s hints start (to + 1) (read + r)
  misses_one to read r p m =
      record {
        count = suc p.count;
        to_is = omega (arith, p.to_is);
        each_fails = (read, r, p.each_fails, rw p.to_is at m, refl);
        few = omega (arith, p.few, m.few);
      }

-- what one attempt that fails keeps, passing over keeps
pub misses_keep : (s hints : List ℕ) (start last : ℕ) (P : ℕ → ℕ → Type 0)
    → ((o read r : ℕ) → o < last → MissAt s hints o r → P o read → P (o + 1) (read + r))
    → (to read₀ read : ℕ) → to ≤ last → MissBetween s hints start to read → P start read₀ → P to (read₀ + read)
misses_keep s hints start last P step to read₀ read le p base =
    rw p.to_is (go p.count read p.each_fails (omega (arith, p.to_is)))
  where
    go : (k read : ℕ) → MissFrom s hints start k read → start + k ≤ last → P (start + k) (read₀ + read)
    go zero read e h = let z : start + 0 ≡ start = omega arith in let y : read₀ + read ≡ read₀ = omega arith in rw (z, y) base
    go (suc k) read (sum, r, m, at, e) h =
        let z : start + suc k ≡ start + k + 1 = omega arith in
        let y : read₀ + read ≡ read₀ + sum + r = omega arith in
        rw (z, y) (step (start + k) (read₀ + sum) r (omega arith) at (go k sum m (omega arith)))

-- one after the other
pub misses_on : (s hints : List ℕ) (start o to read r : ℕ) → MissBetween s hints start o read → MissBetween s hints o to r → MissBetween s hints start to (read + r)
misses_on s hints start o to read r p q =
    misses_keep s hints o to (λ a k. MissBetween s hints start a k) (λ a k m lt miss x. misses_one s hints start a k m x miss) to read r (omega arith) q p

-- ---- the same up to `last`
module _ (s hints : List ℕ) (start last : ℕ) where
  pub passed_none : PassedOverIs s hints start last start 0
  passed_none = record { misses = misses_none s hints start; near = λ h. omega arith; early = λ h. (refl, refl) }

  module _ (o read : ℕ) (w : PassedOverIs s hints start last o read) where
    -- where an offset is below `last`, the start is
    pub passed_late : o < last → last ≤ start → ⊥
    passed_late lt h = omega (arith, (w.early h).0)

    pub passed_one : (r : ℕ) → o < last → MissAt s hints o r → PassedOverIs s hints start last (o + 1) (read + r)
    passed_one r lt m = record { misses = misses_one s hints start o read r w.misses m; near = λ h. omega arith; early = λ h. absurd (passed_late lt h) }

    pub passed_on : (to r : ℕ) → PassedOverIs s hints o last to r → PassedOverIs s hints start last to (read + r)
    passed_on to r v =
        record {
          misses = misses_on s hints start o to read r w.misses v.misses;
          near = λ h. by_order o last (λ lt. v.near lt) (λ ge. omega (arith, w.near h, (v.early ge).0));
          early = λ h. let e = w.early h in let f = v.early (omega (arith, e.0)) in (omega (arith, e.0, f.0), omega (arith, e.1, f.1));
        }

    -- the header bytes are few
    pub passed_few : read ≤ most_places * last
    passed_few =
        by_order start last (λ lt. omega (arith, w.misses.few, w.misses.to_is, w.near lt)) (λ ge. omega (arith, (w.early ge).1))

-- and up to a later `last`
pub passed_wider : (s hints : List ℕ) (start last last' to read : ℕ) → last ≤ last' → start < last → PassedOverIs s hints start last to read → PassedOverIs s hints start last' to read
passed_wider s hints start last last' to read le lt w =
    record { misses = w.misses; near = λ h. omega (arith, w.near lt); early = λ h. absurd (omega arith) }

pub passed_first : (s hints : List ℕ) (o last r : ℕ) → o < last → MissAt s hints o r → PassedOverIs s hints o last (o + 1) r
passed_first s hints o last r lt m = rw (zero-add r) at (passed_one s hints o last o 0 (passed_none s hints o last) r lt m)
