-- `listing::input::judge` meets its contract: each way out rewrites the definition by the tests on the way.
-- Assumes nothing.
use Rattle.std.proofs.Common.{◌≡◌, ℕ, ◌+◌, ◌-◌, ◌<◌, ◌≤◌, List, length, true, false, sym, ◌∙◌, arith, inl, inr}
use lib.Dec.{ltb}
use borrow.Author.Tests.{lt-ltb, le-ltb}
use Rattle.listing.specs.Input.{largest_input, count_bytes, count_of, hints_of}
use Rattle.record.proofs.Numbers.{by_order, by_test}
use Rattle.sheet.specs.Limits.{count_fits, hints_known}
use Rattle.sheet.proofs.Laws.{count_fits_lem}
use Rattle.listing.proofs.input.judge.Goals as goal
use Rattle.listing.proofs.input.judge.Goals.{Else-not-hint_count_fits}

-- where there is no count it is 0
there : (s : List ℕ) → 0 < count_of s → count_bytes ≤ length s
unfolding count_of
there s some =
    by_order (length s) count_bytes
    (λ short. let none = simp (lt-ltb (length s) count_bytes short) at some in absurd (omega (arith, none)))
    (λ h. h)

-- what the count that fits says
fits : (c : Else-not-hint_count_fits) → count_fits (count_of c.args.input.now) ≡ true
fits c = rw c.count_of-count.ensures at (sym c.hint_count_fits.ensures ∙ c.if-not-hint_count_fits.false)

found : (c : Else-not-hint_count_fits) → ltb (length c.args.input.now) count_bytes ≡ false
found c = le-ltb _ _ (there c.args.input.now (count_fits_lem (count_of c.args.input.now) (fits c)).0)

pub overflow_add-count : goal.overflow_add-count
overflow_add-count c =
    let h = count_fits_lem c.count_of-count.result (sym c.hint_count_fits.ensures ∙ c.if-not-hint_count_fits.false) in
    omega (arith, h)

pub returns-then-input-gt-LARGEST_INPUT : goal.returns-then-input-gt-LARGEST_INPUT
returns-then-input-gt-LARGEST_INPUT c = simp (lt-ltb _ _ c.if-input-gt-LARGEST_INPUT.true)

pub returns-then-not-hint_count_fits : goal.returns-then-not-hint_count_fits
returns-then-not-hint_count_fits c =
    let small = le-ltb _ _ c.if-input-gt-LARGEST_INPUT.false in
    let none : count_fits (count_of c.args.input.now) ≡ false =
    rw c.count_of-count.ensures at (sym c.hint_count_fits.ensures ∙ c.if-not-hint_count_fits.true) in
    by_test (ltb (length c.args.input.now) count_bytes) (λ short. simp (small, short)) (λ long. simp (small, long, none))

pub returns-in-Some : goal.returns-in-Some
returns-in-Some c =
    let here = (goal.at.returns-in-Some c).Else-not-hint_count_fits in
    let (lo, hi, is, long) = c.in-Some.ensures.lookup.0 in
    let small = le-ltb _ _ c.if-input-gt-LARGEST_INPUT.false in
    let whole : ltb (length c.args.input.now - count_bytes) (count_of c.args.input.now) ≡ false =
    rw c.count_of-count.ensures at (le-ltb (length c.args.input.now - count_bytes) c.count_of-count.result (omega arith)) in
    let e : count_bytes + c.count_of-count.result - count_bytes ≡ c.count_of-count.result = omega arith in
    let known : hints_known (hints_of c.args.input.now) ≡ true =
    rw (is, e, c.count_of-count.ensures) at (sym c.hints_known.ensures ∙ c.if-hints_known.true) in
    simp (small, found here, fits here, whole, known)

pub returns-in_default-2 : goal.returns-in_default-2
returns-in_default-2 c =
    let here = (goal.at.returns-in_default-2 c).Else-not-hint_count_fits in
    let small = le-ltb _ _ c.if-input-gt-LARGEST_INPUT.false in
    let out : length c.args.input.now < count_bytes + c.count_of-count.result =
    elim (rw c.in_default.is at c.get.ensures.lookup.0) [ inl h ↦ absurd (omega arith) | inr h ↦ h ] in
    let cut : ltb (length c.args.input.now - count_bytes) (count_of c.args.input.now) ≡ true =
    rw c.count_of-count.ensures at (lt-ltb (length c.args.input.now - count_bytes) c.count_of-count.result (omega (arith, there c.args.input.now, count_fits_lem _ (fits here)))) in
    simp (small, found here, fits here, cut)
