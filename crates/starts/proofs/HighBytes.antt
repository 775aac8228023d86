-- A byte from 128 up before the last byte of a made-up header: it begins or goes on in a type of two bytes at least, so there are too few types.
-- Assumes nothing.
use Rattle.std.specs.Prelude.{None, Some}
use Prim.Native.Nat.{ℕ, zero, suc, ◌+◌, ◌-◌, ◌≤◌, ◌<◌}
use mathlib.Core.Path.{◌≡◌, refl}
use mathlib.Core.List.{List}
use native.Mathlib.Omega.{arith}
use lib.ListN.{length, get_or}
use Rattle.attempt.proofs.Judging.{judge_never}
use Rattle.attempt.proofs.Types.{types_step, types_cut, types_none, types_end_lem}
use Rattle.attempt.specs.Attempt.{miss, kinds, types_from}
use Rattle.attempt.specs.Inner.{Headed}
use Rattle.starts.specs.Inner.{BehindHigh, NoneFrom}
use Rattle.rebuild.proofs.Laws.{rebuilt_cut, rebuilt_miss, one_byte_guess}
use Rattle.rebuild.specs.Header.{one_byte_types, rebuilt}
use Rattle.rebuild.specs.declared.rebuilding.Rebuilding.TheVariants.{OneByte}
use Rattle.record.proofs.Laws.{varint_lies, varint_through}
use Rattle.record.proofs.Numbers.{by_order}
use Rattle.record.specs.Places.{stop_of}
use Rattle.record.specs.Varint.{varint_at}
use Rattle.record.specs.Varint.{Varint}

module _ (s : List ℕ) where
  -- a byte from 128 up is no varint of its own
  module _ (at : ℕ) (more : at + 1 < length s) where
    goes_on : (f to : ℕ) → length s ≤ to + f → at < to → to ≤ length s → ((p : ℕ) → at ≤ p → p < to → 128 ≤ get_or s p 0) → at + 2 ≤ stop_of s (varint_at s at)
    goes_on zero to h past in' high = omega (arith, varint_through s at to past in' high (λ lt. absurd (omega arith)))
    goes_on (suc f) to h past in' high =
        by_order (get_or s to 0) 128 (λ low. omega (arith, varint_through s at to past in' high (λ _. low)))
        (λ up.
        by_order to (length s)
        (λ lt. goes_on f (to + 1) (omega arith) (omega arith) (omega arith) (λ p le q. by_order p to (λ before. high p le before) (λ there. let e : p ≡ to = omega arith in rw e up)))
        (λ ge. omega (arith, varint_through s at to past in' high (λ lt. absurd (omega arith)))))

    two_bytes : 128 ≤ get_or s at 0 → at + 2 ≤ stop_of s (varint_at s at)
    two_bytes h = goes_on (length s) (at + 1) (omega arith) (omega arith) (omega arith) (λ p le q. let e : p ≡ at = omega arith in rw e h)

  module _ (stop : ℕ) where
    -- types take a byte each at least,
    count : (f at : ℕ) → length (kinds (types_from f s at stop)) ≤ stop - at
    count zero at = rw (types_none s at stop) (omega arith)
    count (suc f) at =
        by_order at stop (λ lt. go lt (varint_at s at) refl (λ k. count f k)) (λ ge. rw (types_end_lem (suc f) s at stop ge) (omega arith))
      where
        go : at < stop → (v : Varint) → varint_at s at ≡ v → ((k : ℕ) → length (kinds (types_from f s k stop)) ≤ stop - k) → length (kinds (types_from (suc f) s at stop)) ≤ stop - at
        go lt (Some (t, c)) v rest = rw (types_step f s at stop t c lt v) (omega (arith, (varint_lies s at t c v).past, rest c.at))
        go lt None v rest = rw (types_cut f s at stop lt v) (omega arith)

    -- THE LAW: and one of them takes two, if such a byte stands before the last
    module _ (p : ℕ) (before : p + 1 < stop) (inside : p + 1 < length s) (high : 128 ≤ get_or s p 0) where
      fewer : (f at : ℕ) → at ≤ p → length (kinds (types_from f s at stop)) < stop - at
      fewer zero at le = rw (types_none s at stop) (omega arith)
      fewer (suc f) at le = go (varint_at s at) refl (λ k. fewer f k)
        where
          go : (v : Varint) → varint_at s at ≡ v → ((k : ℕ) → k ≤ p → length (kinds (types_from f s k stop)) < stop - k) → length (kinds (types_from (suc f) s at stop)) < stop - at
          go (Some (t, c)) v rest =
              let past = (varint_lies s at t c v).past in
              let most = count f c.at in
              rw (types_step f s at stop t c (omega arith) v)
              (by_order p c.at
              (λ behind.
              by_order at p (λ early. omega arith)
              (λ there.
              let e : at ≡ p = omega arith in
              let two : at + 2 ≤ c.at = rw v at (two_bytes at (omega arith) (rw e high)) in
              omega arith))
              (λ on. omega (arith, rest c.at on)))
          go None v rest = rw (types_cut f s at stop (omega arith) v) (omega arith)

-- THE LAW: so it dismisses each start from which it is among the bytes before the last
pub high_miss : (d hints : List ℕ) (v p : ℕ) → 1 ≤ length hints → length hints ≤ one_byte_types → v ≤ p → p + 1 < v + length hints → p < length d → 128 ≤ get_or d p 0
    → rebuilt OneByte d hints v ≡ miss
high_miss d hints v p some few le lt in' high =
    let guess = one_byte_guess d (length hints) v in
    by_order (length d - v) (length hints) (λ short. rebuilt_cut d hints v (omega arith) (length hints) some (omega arith) OneByte guess short)
    (λ fits.
    let head : Headed d v (length hints) v = record { low = some; high = omega arith; inside = omega arith; past = omega arith; near = omega arith; within = omega arith } in
    let less = fewer d (v + length hints) p lt (omega arith) high (length hints) v le in
    rebuilt_miss d hints v (omega arith) (length hints) some (omega arith) OneByte guess fits (judge_never d hints v (length hints) v head _ (λ _ e. omega arith)).misses)

pub none_on : (d hints : List ℕ) (v at next : ℕ) → 1 ≤ length hints → length hints ≤ one_byte_types → at + (length hints - 1) ≤ length d → at < next
    → BehindHigh d at (at + (length hints - 1)) next → NoneFrom OneByte d hints v at → NoneFrom OneByte d hints v next
none_on d hints v at next some few in' past b none u le lt =
    by_order u at (λ before. none u le before)
    (λ on. high_miss d hints u (next - 1) some few (omega arith) (omega (arith, b.near)) (omega (arith, b.near)) (b.high past))
