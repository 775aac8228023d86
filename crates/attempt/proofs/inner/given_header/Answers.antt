-- `attempt::inner::given_header` meets its contract: each way out is a law of `proofs/Judging.antt`.
-- Assumes nothing.
use Prim.Native.Nat.{◌+◌, ◌≤◌}
use mathlib.Core.Path.{sym, ◌∙◌}
use mathlib.Core.Bool.{◌||◌}
use native.Mathlib.Omega.{arith}
use Rattle.record.specs.Places.{types_padded}
use Rattle.attempt.specs.Inner.{header_types, WholeIs}
use Rattle.attempt.proofs.Bodies.{miss_count}
use Rattle.attempt.proofs.Judging.{read_all, end_past, judge_cut, judge_never, judge_miss}
use Rattle.attempt.proofs.inner.given_header.Goals as goal
use Rattle.attempt.proofs.inner.given_header.Goals.{In-Some}

pub overflow_sub-read : goal.overflow_sub-read
overflow_sub-read c =
    rw c.types_end.ensures (omega (arith, (read_all c.args.bytes.now c.args.hints.now _ _ _ c.requires).0))

pub returns-then-miscounted : goal.returns-then-miscounted
returns-then-miscounted c =
    rw c.types_end.ensures (judge_never _ _ _ _ _ c.requires _ (rw c.if-miscounted.true at c.miscounted.ensures))

pub returns-in_default : goal.returns-in_default
returns-in_default c =
    judge_cut _ _ _ _ _ c.requires _ (rw c.in_default.is at c.walk_types.ensures)

-- what the walk found
walked : (c : In-Some) →
    WholeIs c.args.bytes.now c.args.hints.now (header_types c.args.bytes.now c.args.o c.args.head c.args.from) (c.args.own || types_padded c.args.head c.args.bytes.now c.args.from (c.args.o + c.args.head))
    c.in-Some.walk.count c.in-Some.walk.matched c.in-Some.walk.total c.in-Some.walk.end c.in-Some.walk.padded
walked c = rw c.in-Some.is at c.walk_types.ensures

-- and what that says of its numbers
bounds : (c : In-Some) →
    (c.args.o ≤ c.in-Some.walk.end) × (c.in-Some.walk.total ≤ 65537)
bounds c = end_past _ _ _ _ _ c.requires _ _ _ _ _ _ (walked c)

pub overflow_sub-result-then-walk-hints : goal.overflow_sub-result-then-walk-hints
overflow_sub-result-then-walk-hints c = omega (arith, bounds (goal.at.overflow_sub-result-then-walk-hints c).In-Some)

pub returns-then-walk-hints : goal.returns-then-walk-hints
returns-then-walk-hints c =
    let w = walked (goal.at.returns-then-walk-hints c).In-Some in
    judge_miss _ _ _ _ _ c.requires _ _ _ _ _ _ w (miss_count _ _ _ _ _ _ c.requires.inside (λ e. c.if-walk-hints.true (sym w.counts ∙ e)))
