-- `rebuild::inner::columns::walk_columns` meets its contract: what the loop has read, with what is to come, are all types (`Reading`).
-- Assumes nothing.
use Rattle.std.specs.Prelude.{refl, Some, ◌+◌, ◌≤◌, ◌≡◌, Bool, ◌||◌, length}
use mathlib.Core.Path.{sym, ◌∙◌}
use native.Mathlib.Omega.{arith}
use Rattle.attempt.specs.Inner.{too_long}
use Rattle.rebuild.proofs.Reading.{Reading, reading_start, reading_step, reading_cut, reading_over, reading_long, reading_end}
use Rattle.record.proofs.Laws.{varint_lies}
use Rattle.record.proofs.Types.{mark_set, mark_left}
use Rattle.record.specs.Varint.{varint_at}
use Rattle.rebuild.proofs.inner.columns.walk_columns.Goals as goal
use Rattle.rebuild.proofs.inner.columns.walk_columns.Goals.{After-add_body-total, then-next, else-next}

pub loop-count-init : goal.loop-count-init
loop-count-init c = (omega arith, c.requires.v_in_bounds.0, omega arith, omega arith, reading_start _ _ _)

pub returns-then-at-last : goal.returns-then-at-last
returns-then-at-last c = reading_over _ _ _ _ _ _ _ _ c.loop-count.invariant.4 c.if-at-last.true

pub returns-in_err-kind : goal.returns-in_err-kind
returns-in_err-kind c =
    rw c.from_residual.ensures
    (reading_cut _ _ _ _ _ _ _ _ c.loop-count.invariant.4 c.loop-count-test.true c.if-at-last.false (rw c.new.ensures at (sym c.serial_type.ensures ∙ c.in_err-kind.was)))

-- the type that was read, and where it ends
read : (c : After-add_body-total) → varint_at c.args.payload.now c.loop-count.at ≡ Some (c.in_ok-kind.kind, c.in_ok-kind.next)
read c = rw c.new.ensures at (sym c.serial_type.ensures ∙ c.in_ok-kind.was)

-- one type more was read
one_more : (c : After-add_body-total)
    → Reading c.args.payload.now c.args.hints.now c.args.v c.in_ok-kind.next.at (c.loop-count.count + 1) (c.loop-count.matched + c.suits_at-matched.result)
    c.add_body-total.result (c.loop-count.padded || c.in_ok-kind.next.padded)
one_more c =
    rw (c.suits_at-matched.ensures.value, c.add_body-total.ensures)
    (reading_step _ _ _ _ _ _ _ _ c.loop-count.invariant.4 _ _ c.loop-count-test.true c.if-at-last.false (read c))

pub overflow_sub-payload : goal.overflow_sub-payload
overflow_sub-payload c = (varint_lies _ _ _ _ (read (goal.at.overflow_sub-payload c).After-add_body-total)).inside

pub returns-then-total-payload : goal.returns-then-total-payload
returns-then-total-payload c =
    let here = (goal.at.returns-then-total-payload c).After-add_body-total in
    reading_long _ _ _ _ _ _ _ _ (one_more here) c.requires.v_in_bounds.0 c.requires.hint_count_bound.0 c.requires.hint_count_bound.1
    (varint_lies _ _ _ _ (read here)).inside (omega (arith, c.add_body-total.ensures)) c.if-total-payload.true

-- and all that holds then, where m is the mark with it
again : (c : After-add_body-total) (m : Bool) →
    let matched = c.loop-count.matched + c.suits_at-matched.result in
    (c.loop-count.padded || c.in_ok-kind.next.padded) ≡ m
    → (c.args.v + (c.loop-count.count + 1) ≤ c.in_ok-kind.next.at) × (c.in_ok-kind.next.at ≤ length c.args.payload.now) × (matched ≤ c.loop-count.count + 1)
    × (c.add_body-total.result ≤ too_long)
    × Reading c.args.payload.now c.args.hints.now c.args.v c.in_ok-kind.next.at (c.loop-count.count + 1) matched c.add_body-total.result m
again c m e =
    let z = varint_lies _ _ _ _ (read c) in (
      omega (arith, z.past, c.loop-count.invariant.0),
      z.inside,
      omega (arith, c.suits_at-matched.ensures.small, c.loop-count.invariant.2),
      omega (arith, c.add_body-total.ensures),
      rw e at (one_more c),
    )

pub loop-count-preserved : goal.loop-count-preserved
loop-count-preserved c =
    let here = (goal.at.loop-count-preserved c).After-add_body-total in
    elim c.if-next.branch [
      | then-next w ↦ again here _ (mark_set c.loop-count.padded _ w.if-next.true ∙ sym w.padded-is)
      | else-next w ↦ again here _ (mark_left c.loop-count.padded _ w.if-next.false ∙ sym w.padded-is)
    ]

pub returns-then-at-last-2 : goal.returns-then-at-last-2
returns-then-at-last-2 c = reading_over _ _ _ _ _ _ _ _ c.loop-count.invariant.4 c.if-at-last-2.true

pub returns : goal.returns
returns c = (
  refl,
  reading_end _ _ _ _ _ _ _ _ c.loop-count.invariant.4 c.loop-count-test.false c.requires.hint_count_bound.0 c.loop-count.invariant.0 c.if-at-last-2.false,
)
