-- The types of a header with none of them decoded: where reading them ends, and how many there may be.
-- Assumes nothing.
use Rattle.std.specs.Prelude.{None, Some}
use Prim.Native.Nat.{ℕ, zero, suc, ◌+◌, ◌-◌, ◌*◌, ◌≤◌, ◌<◌}
use mathlib.Core.Path.{◌≡◌, refl, sym, ap, ◌∙◌}
use mathlib.Core.Bool.{true, false≢true}
use mathlib.Core.List.{List}
use native.Mathlib.Omega.{arith}
use lib.ListN.{length, get_or}
use Rattle.attempt.proofs.Types.{types_step, types_cut, types_none, types_end_lem}
use Rattle.attempt.specs.Attempt.{Types, kinds, is_whole, types_from}
use Rattle.attempt.specs.Inner.{reach, Ends}
use Rattle.record.proofs.Laws.{varint_lies, varint_reach, varint_ends}
use Rattle.record.proofs.Numbers.{by_order}
use Rattle.record.specs.Places.{stop_of}
use Rattle.record.specs.Varint.{varint_at}
use Rattle.record.specs.Varint.{Varint}

-- of whole types, k have been skipped
pub Skipped : (s : List ℕ) (stop : ℕ) (w : Types) (at k : ℕ) → Type 0
Skipped s stop w at k =
    (f : ℕ) × (stop ≤ at + f)
    × (is_whole w ≡ true → (is_whole (types_from f s at stop) ≡ true) × (length (kinds w) ≡ k + length (kinds (types_from f s at stop))))

module _ (s : List ℕ) (stop : ℕ) (inside : stop ≤ length s) where
  -- ---- where reading ends

  reach_step : (f at : ℕ) → at < stop → reach s (types_from (suc f) s at stop) ≡ reach s (types_from f s (stop_of s (varint_at s at)) stop)
  reach_step f at lt = go (varint_at s at) refl
    where
      go : (v : Varint) → varint_at s at ≡ v → reach s (types_from (suc f) s at stop) ≡ reach s (types_from f s (stop_of s v) stop)
      go (Some (t, c)) e = ap (reach s) (types_step f s at stop t c lt e)
      go None e = ap (reach s) (types_cut f s at stop lt e) ∙ sym (ap (reach s) (types_end_lem f s (length s) stop inside))

  pub skip_past : (at : ℕ) → at < stop → at < stop_of s (varint_at s at)
  skip_past at lt = (varint_reach s at).past (omega arith)

  pub ends_start : (f at : ℕ) → stop ≤ at + f → Ends s (types_from f s at stop) at stop
  unfolding Ends
  ends_start f at h = (f, h, refl)

  pub ends_step : (w : Types) (at : ℕ) → at < stop → Ends s w at stop → Ends s w (stop_of s (varint_at s at)) stop
  unfolding Ends
  ends_step w at lt (zero, k, e) = absurd (omega arith)
  ends_step w at lt (suc f, k, e) = (f, omega (arith, skip_past at lt), e ∙ reach_step f at lt)

  pub ends_end : (w : Types) (at : ℕ) → stop ≤ at → Ends s w at stop → at ≡ reach s w
  unfolding Ends
  ends_end w at h (f, k, e) = sym (e ∙ ap (reach s) (types_end_lem f s at stop h))

  -- THE LAW: reading comes to behind any byte below 128
  pub ends_pass : (p : ℕ) → p < stop → get_or s p 0 < 128 → (f at : ℕ) → at ≤ p → stop ≤ at + f → Ends s (types_from f s at stop) (p + 1) stop
  unfolding Ends
  ends_pass p in' low zero at le h = absurd (omega arith)
  ends_pass p in' low (suc f) at le h =
      let next = stop_of s (varint_at s at) in
      let past = skip_past at (omega arith) in
      let most = varint_ends s p (omega arith) low at le in
      let step = reach_step f at (omega arith) in
      by_order next (p + 1)
      (λ before. let r = ends_pass p in' low f next (omega arith) (omega arith) in (r.0, r.1, step ∙ r.2))
      (λ there. let e : next ≡ p + 1 = omega arith in (f, omega arith, step ∙ ap (λ (k : ℕ). reach s (types_from f s k stop)) e))

  -- ---- how many there may be

  -- THE LAW: whole types take one to nine bytes each
  takes : (f at : ℕ) → at ≤ stop → stop ≤ at + f → is_whole (types_from f s at stop) ≡ true
      → (stop ≤ at + 9 * length (kinds (types_from f s at stop))) × (length (kinds (types_from f s at stop)) ≤ stop - at)
  takes zero at le h e = rw (types_none s at stop) (omega arith, omega arith)
  takes (suc f) at le h e = by_order at stop (λ lt. go lt (varint_at s at) refl (λ k. takes f k)) (λ ge. rw (types_end_lem (suc f) s at stop ge) (omega arith, omega arith))
    where
      none : (k : ℕ) → stop ≤ k → length (kinds (types_from f s k stop)) ≡ 0
      none k ge = ap (λ t. length (kinds t)) (types_end_lem f s k stop ge)

      go : at < stop → (v : Varint) → varint_at s at ≡ v
          → ((k : ℕ) → k ≤ stop → stop ≤ k + f → is_whole (types_from f s k stop) ≡ true
          → (stop ≤ k + 9 * length (kinds (types_from f s k stop))) × (length (kinds (types_from f s k stop)) ≤ stop - k))
          → (stop ≤ at + 9 * length (kinds (types_from (suc f) s at stop))) × (length (kinds (types_from (suc f) s at stop)) ≤ stop - at)
      go lt (Some (t, c)) v rest =
          let z = varint_lies s at t c v in
          let q = types_step f s at stop t c lt v in
          by_order stop c.at
          (λ past. let n = none c.at (omega arith) in rw q (omega (arith, z.nine), omega arith))
          (λ before.
          let r = rest c.at before (omega (arith, z.past)) (rw q at e) in
          rw q (omega (arith, z.nine, r.0), omega (arith, z.past, r.1)))
      go lt None v rest = absurd (false≢true (rw (types_cut f s at stop lt v) at e))

  pub unfitting : (f at n : ℕ) → at ≤ stop → stop ≤ at + f → (n ≤ stop - at → stop - at ≤ 9 * n → ⊥)
      → is_whole (types_from f s at stop) ≡ true → length (kinds (types_from f s at stop)) ≡ n → ⊥
  unfitting f at n le h none w e = let t = takes f at le h w in none (omega (arith, t.1)) (omega (arith, t.0))

  pub skipped_start : (f at : ℕ) → stop ≤ at + f → Skipped s stop (types_from f s at stop) at 0
  unfolding Skipped
  skipped_start f at h = (f, h, λ e. (e, omega arith))

  module _ (w : Types) (at k : ℕ) where
    pub skipped_step : at < stop → Skipped s stop w at k → Skipped s stop w (stop_of s (varint_at s at)) (k + 1)
    unfolding Skipped
    skipped_step lt (zero, h, g) = absurd (omega arith)
    skipped_step lt (suc f, h, g) = go (varint_at s at) refl
      where
        go : (v : Varint) → varint_at s at ≡ v → Skipped s stop w (stop_of s v) (k + 1)
        go (Some (t, c)) e =
            let z = varint_lies s at t c e in
            (f, omega (arith, z.past), λ q. let r = rw (types_step f s at stop t c lt e) at (g q) in (r.0, omega (arith, r.1)))
        go None e = (f, omega arith, λ q. let r = rw (types_cut f s at stop lt e) at (g q) in absurd (false≢true r.0))

    -- too few, and too many
    pub skipped_few : (n : ℕ) → stop ≤ at → k < n → Skipped s stop w at k → is_whole w ≡ true → length (kinds w) ≡ n → ⊥
    unfolding Skipped
    skipped_few n ge lt (f, h, g) e c = let r = rw (types_end_lem f s at stop ge) at (g e) in omega (arith, r.1)

    pub skipped_more : at < stop → Skipped s stop w at k → is_whole w ≡ true → length (kinds w) ≡ k → ⊥
    unfolding Skipped
    skipped_more lt (zero, h, g) e c = omega arith
    skipped_more lt (suc f, h, g) e c = go (varint_at s at) refl
      where
        go : (v : Varint) → varint_at s at ≡ v → ⊥
        go (Some (t, d)) v = let r = rw (types_step f s at stop t d lt v) at (g e) in omega (arith, r.1)
        go None v = let r = rw (types_cut f s at stop lt v) at (g e) in absurd (false≢true r.0)
