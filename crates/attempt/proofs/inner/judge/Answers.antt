-- `attempt::inner::judge` meets its contract: each way out is a law of `proofs/Judging.antt`.
-- Assumes nothing.
use Prim.Native.Nat.{◌+◌, ◌-◌, ◌≤◌}
use mathlib.Core.Path.{◌≡◌, refl, ◌∙◌}
use mathlib.Core.List.{◌++◌}
use native.Mathlib.Omega.{arith}
use lib.ListN.{length}
use Rattle.record.specs.Places.{places_from, type_places}
use Rattle.attempt.specs.Attempt.{most_bytes}
use Rattle.attempt.specs.Inner.{judged_header, MissIs}
use Rattle.attempt.proofs.Bodies.{miss_suited, miss_total}
use Rattle.attempt.proofs.Judging.{end_past, judge_miss, judge_hit}
use Rattle.attempt.proofs.inner.judge.Goals as goal
use Rattle.attempt.proofs.inner.judge.Goals.{Start, then-walk-eq0-via-then-walk-eq0, then-walk-eq0-via-else-walk-eq0+then-consumed-bytes, then-walk-eq0-via-else-walk-eq0+else-consumed-bytes+then-consumed-gt-MOST_BYTES}

-- what the types say of their numbers
bounds : (c : Start) → (c.args.o ≤ c.args.walk.end) × (c.args.walk.total ≤ 65537)
bounds c = end_past _ _ _ _ _ c.requires.headed _ _ _ _ _ _ c.requires.whole_is

-- no type that suits makes no row
none : (c : Start) → c.args.walk.matched ≡ 0
    → MissIs (judged_header c.args.bytes.now c.args.hints.now c.args.o c.args.head c.args.from c.args.walk.padded)
    (places_from c.args.o (c.args.from - c.args.o) ++ type_places c.args.head c.args.bytes.now c.args.from (c.args.o + c.args.head)) (c.args.walk.end - c.args.o)
none c no' = judge_miss _ _ _ _ _ c.requires.headed _ _ _ _ _ _ c.requires.whole_is (miss_suited _ _ _ _ _ _ c.requires.headed.inside (c.requires.whole_is.matches ∙ no'))

-- bodies that do not fit make no row
over : (c : Start) →
    (c.args.head + c.args.walk.total ≤ length c.args.bytes.now - c.args.o → c.args.head + c.args.walk.total ≤ most_bytes → ⊥)
    → MissIs (judged_header c.args.bytes.now c.args.hints.now c.args.o c.args.head c.args.from c.args.walk.padded)
    (places_from c.args.o (c.args.from - c.args.o) ++ type_places c.args.head c.args.bytes.now c.args.from (c.args.o + c.args.head)) (c.args.walk.end - c.args.o)
over c no' = judge_miss _ _ _ _ _ c.requires.headed _ _ _ _ _ _ c.requires.whole_is (miss_total _ _ _ _ _ _ c.requires.headed.inside (rw c.requires.whole_is.totals no'))

pub overflow_sub-read : goal.overflow_sub-read
overflow_sub-read c = (bounds (goal.at.overflow_sub-read c).Start).0

pub overflow_add-consumed : goal.overflow_add-consumed
overflow_add-consumed c = omega (arith, bounds (goal.at.overflow_add-consumed c).Start)

pub returns-then-walk-eq0 : goal.returns-then-walk-eq0
returns-then-walk-eq0 c =
    elim c.then-walk-eq0.branch [
      | then-walk-eq0-via-then-walk-eq0 w ↦ none (goal.at.returns-then-walk-eq0 c).Start w.if-walk-eq0.true
      | then-walk-eq0-via-else-walk-eq0+then-consumed-bytes w ↦ over (goal.at.returns-then-walk-eq0 c).Start (λ p q. omega (arith, w.if-consumed-bytes.true))
      | then-walk-eq0-via-else-walk-eq0+else-consumed-bytes+then-consumed-gt-MOST_BYTES w ↦
          over (goal.at.returns-then-walk-eq0 c).Start (λ p q. omega (arith, w.if-consumed-gt-MOST_BYTES.true))
    ]

pub returns : goal.returns
returns c =
    judge_hit _ _ _ _ _ c.requires.headed _ _ _ _ _ _ c.requires.whole_is refl (omega (arith, c.if-walk-eq0.false)) c.if-consumed-bytes.false c.if-consumed-gt-MOST_BYTES.false
