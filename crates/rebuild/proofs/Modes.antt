-- The two modes that rebuild beside each other, and what the exact mode looks at.
-- Assumes nothing.
use Rattle.std.specs.Prelude.{None, Some}
use Prim.Native.Nat.{ℕ, zero, suc, ◌+◌, ◌-◌, ◌≤◌, ◌<◌}
use mathlib.Core.Path.{◌≡◌, refl, sym, ap, ◌∙◌}
use mathlib.Core.Bool.{false}
use mathlib.Core.List.{List, ◌∷◌}
use native.Mathlib.Nat.{add-zero}
use native.Mathlib.Omega.{arith}
use borrow.Author.Tests.{le-leb}
use lib.ListN.{length, drop, get_or}
use Rattle.attempt.proofs.Agreeing.{types_same}
use Rattle.attempt.proofs.Shifts.{given}
use Rattle.attempt.proofs.Types.{types_step, types_cut, types_none, stops}
use Rattle.attempt.specs.Attempt.{ended, types_from, Tried, attempt_at}
use Rattle.attempt.specs.Inner.{header_types}
use Rattle.rebuild.specs.Header.{one_byte_types, most_type_bytes, own_bytes, Guess, no_header, takes, exact_types, exact_places, taken_from, guessed, without, rebuilt}
use Rattle.rebuild.specs.Inner.{exact_padded}
use Rattle.rebuild.specs.declared.rebuilding.Rebuilding.TheVariants.{OneByte, Exact}
use Rattle.rebuild.proofs.From.{header_is, guess_small}
use Rattle.rebuild.proofs.Laws.{seen_from, short_only, behind_is, rebuilt_with_lem, rebuilt_cut, rebuilt_none, one_byte_guess}
use Rattle.record.proofs.Laws.{varint_lies, varint_low}
use Rattle.record.proofs.Numbers.{by_order}
use Rattle.record.specs.Places.{AgreeAt, types_padded}
use Rattle.record.specs.Varint.{varint_at}
use Rattle.record.specs.Varint.{Varint}
use Rattle.sheet.specs.Limits.{most_columns}

abbrev stop_at : ℕ → ℕ
stop_at v = v + suc most_type_bytes

-- THE LAW: the one-byte mode is literally an attempt on one made-up byte, columns + 1, before the bytes from v on
pub one_byte_is : (d hints : List ℕ) (v : ℕ) → length hints ≤ one_byte_types → rebuilt OneByte d hints v ≡ without 1 (attempt_at ((length hints + 1) ∷ drop v d) hints 0)
unfolding rebuilt guessed
one_byte_is d hints v few = rw (le-leb (length hints) one_byte_types few)

-- ---- types of one byte each
module _ (d : List ℕ) (v n : ℕ) (few : n ≤ most_columns) (low : (p : ℕ) → v ≤ p → p < v + n → get_or d p 0 < 128) where
  -- all of them are there,
  one_each : (f at : ℕ) → v ≤ at → at + f ≤ v + n → at + f ≤ length d → taken_from v (types_from f d at (stop_at v)) ≡ taken_from v (ended (at + f))
  one_each zero at from to in' = rw (types_none d at (stop_at v), add-zero at)
  one_each (suc f) at from to in' =
      let e : at + suc f ≡ at + 1 + f = omega arith in
      rw (types_step f d at (stop_at v) (get_or d at 0) (record { at = at + 1; padded = false }) (omega arith) (varint_low d at (omega arith) (low at from (omega arith))), e)
      (one_each f (at + 1) (omega arith) (omega arith) (omega arith))

  -- or the payload ends before
  one_off : (f at : ℕ) → v ≤ at → at + f ≤ v + n → at ≤ length d → length d < at + f → taken_from v (types_from f d at (stop_at v)) ≡ no_header
  one_off zero at from to in' out = absurd (omega arith)
  one_off (suc f) at from to in' out =
      by_order at (length d)
      (λ there.
      rw (types_step f d at (stop_at v) (get_or d at 0) (record { at = at + 1; padded = false }) (omega arith) (varint_low d at there (low at from (omega arith))))
      (one_off f (at + 1) (omega arith) (omega arith) (omega arith) (omega arith)))
      (λ end. rw (types_cut f d at (stop_at v) (omega arith) (nothing (varint_at d at) refl end)))
    where
      nothing : (r : Varint) → varint_at d at ≡ r → length d ≤ at → varint_at d at ≡ None
      nothing None r end = r
      nothing (Some (t, c)) r end = let z = varint_lies d at t c r in absurd (omega (arith, z.past, z.inside))

-- THE LAW: where every type takes one byte, the exact and the one-byte mode give the same row at that start
pub same_row : (d hints : List ℕ) (v : ℕ) → v ≤ length d → 1 ≤ length hints → length hints ≤ most_columns
    → ((p : ℕ) → v ≤ p → p < v + length hints → get_or d p 0 < 128) → rebuilt Exact d hints v ≡ rebuilt OneByte d hints v
unfolding guessed
same_row d hints v start some few low =
    let n = length hints in
    by_order (length d) (v + n)
    (λ out.
    rebuilt_none Exact d hints v (one_off d v n few low n v (omega arith) (omega arith) start out)
    ∙ sym (rebuilt_cut d hints v start n some (omega arith) OneByte (one_byte_guess d n v) (omega arith)))
    (λ in'.
    let e : v + n - v ≡ n = omega arith in
    let all : guessed Exact d n v ≡ takes n = one_each d v n few low n v (omega arith) (omega arith) in' ∙ rw (e, le-leb n most_type_bytes (omega arith)) in
    rebuilt_with_lem d hints v start n some (omega arith) Exact all ∙ sym (rebuilt_with_lem d hints v start n some (omega arith) OneByte (one_byte_guess d n v)))

-- ---- what the exact mode looks at

-- THE LAW: it reads at most 519 header bytes a start,
pub exact_few : (d : List ℕ) (columns v : ℕ) → v ≤ length d → length (exact_places d columns v) ≤ 519
exact_few d columns v start = let z = stops d (stop_at v) columns v start in omega (arith, z.counts, z.near (omega arith))

-- THE LAW: and no other: payloads of one length that agree there have the same row at that start
module _ (x y hints : List ℕ) (v : ℕ) (long : length x ≡ length y) (start : v ≤ length x) (some : 1 ≤ length hints) (few : length hints ≤ most_columns)
    (agree : AgreeAt x y (exact_places x (length hints) v)) where
  abbrev n : ℕ
  n = length hints

  same_types : exact_types y n v ≡ exact_types x n v
  same_types = (types_same x y long n v (stop_at v) agree).0

  same_mark : exact_padded y n v ≡ exact_padded x n v
  same_mark = (types_same x y long n v (stop_at v) agree).2

  same_guess : guessed Exact y n v ≡ guessed Exact x n v
  unfolding guessed
  same_guess = ap (taken_from v) same_types

  pub exact_agrees : rebuilt Exact y hints v ≡ rebuilt Exact x hints v
  unfolding guessed
  exact_agrees = go (guessed Exact x n v) refl
    where
      go : (g : Guess) → guessed Exact x n v ≡ g → rebuilt Exact y hints v ≡ rebuilt Exact x hints v
      go no_header g = rebuilt_none Exact y hints v (same_guess ∙ g) ∙ sym (rebuilt_none Exact x hints v g)
      go (takes t) g =
          let start' : v ≤ length y = omega arith in
          let small = guess_small x v start Exact n t some few g in
          let hx = header_is x v start n t g in
          let hy = header_is y v start' n t (same_guess ∙ g) in
          let types : header_types y v t v ≡ header_types x v t v = hy.0 ∙ (same_types ∙ sym hx.0) in
          let marks : types_padded t y v (v + t) ≡ types_padded t x v (v + t) = hy.3 ∙ (same_mark ∙ sym hx.3) in
          let made : given y hints v t ≡ given x hints v t = rw (← long, types, marks) in
          rebuilt_with_lem y hints v start' t small.0 small.1 Exact (same_guess ∙ g)
          ∙ (behind_is y hints v start' t small.0 small.1 (omega (arith, hy.2))
          ∙ (ap (λ (r : Tried). short_only (own_bytes t) (seen_from v r)) made
          ∙ sym (rebuilt_with_lem x hints v start t small.0 small.1 Exact g ∙ behind_is x hints v start t small.0 small.1 (omega (arith, hx.2)))))
