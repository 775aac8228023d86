-- `attempt::inner::attempt` meets its contract: each way out is a law of `proofs/Judging.antt`.
-- Assumes nothing.
use Rattle.std.specs.Prelude.{Some}
use Prim.Native.Nat.{◌≤◌}
use mathlib.Core.Path.{◌≡◌, sym, ◌∙◌}
use native.Mathlib.Omega.{arith}
use lib.ListN.{length}
use Rattle.record.proofs.Laws.{varint_lies}
use Rattle.record.specs.Varint.{varint_at}
use Rattle.attempt.specs.Attempt.{header_fits}
use Rattle.attempt.proofs.Judging.{fits_is, attempt_short, attempt_bad, attempt_is, places_is, headed}
use Rattle.attempt.proofs.inner.attempt.Goals as goal
use Rattle.attempt.proofs.inner.attempt.Goals.{After-header_fits, In-Some}

pub returns-in_default : goal.returns-in_default
returns-in_default c = attempt_short _ _ _ (sym (rw c.new.ensures at c.header_length.ensures) ∙ c.in_default.is) (omega arith)

-- the header's length that was read, and where it ends
read : (c : In-Some) →
    varint_at c.args.bytes.now c.args.o ≡ Some (c.in-Some.h, c.in-Some.next)
read c = sym (rw c.new.ensures at c.header_length.ensures) ∙ c.in-Some.is

past : (c : In-Some) → c.args.o ≤ c.in-Some.next.at
past c = omega (arith, (varint_lies _ _ _ _ (read c)).past)

-- whether it fits is what the definition says
fitting : (c : After-header_fits) →
    c.header_fits.result ≡ header_fits (length c.args.bytes.now) c.args.o c.in-Some.h
fitting c = c.header_fits.ensures

pub given_header-requires : goal.given_header-requires
given_header-requires c =
    let f = fits_is _ _ _ (sym (fitting (goal.at.given_header-requires c).After-header_fits) ∙ c.if-not-header_fits.false) in
    headed _ _ _ _ (read (goal.at.given_header-requires c).In-Some) f.0 f.1 f.2 (omega arith)

pub returns : goal.returns
returns c =
    let fit = sym (fitting (goal.at.returns c).After-header_fits) ∙ c.if-not-header_fits.false in
    rw (attempt_is _ _ _ _ _ (read (goal.at.returns c).In-Some) fit, places_is _ _ _ _ (read (goal.at.returns c).In-Some) fit) c.given_header.ensures

pub overflow_sub-result-then-not-header_fits : goal.overflow_sub-result-then-not-header_fits
overflow_sub-result-then-not-header_fits c = past (goal.at.overflow_sub-result-then-not-header_fits c).In-Some

pub returns-then-not-header_fits : goal.returns-then-not-header_fits
returns-then-not-header_fits c = attempt_bad _ _ _ _ _ (read (goal.at.returns-then-not-header_fits c).In-Some) (sym (fitting (goal.at.returns-then-not-header_fits c).After-header_fits) ∙ c.if-not-header_fits.true)
