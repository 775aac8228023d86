-- `attempt::inner::walk_types` meets its contract: what the loop has read, with what is left, comes to the whole header (`Left`).
-- Assumes nothing.
use Rattle.std.specs.Prelude.{Some}
use Prim.Native.Nat.{◌+◌, ◌<◌, ◌≤◌}
use mathlib.Core.Path.{◌≡◌, refl, sym, ◌∙◌}
use mathlib.Core.Bool.{Bool, true, ◌||◌}
use native.Mathlib.Omega.{arith}
use Rattle.record.proofs.Laws.{varint_lies}
use Rattle.record.proofs.Types.{mark_set, mark_left}
use Rattle.record.specs.Places.{types_padded}
use Rattle.record.specs.Varint.{varint_at}
use Rattle.attempt.specs.Inner.{too_long, header_types}
use Rattle.attempt.proofs.Types.{Left, left_start, left_step, left_cut, left_end}
use Rattle.attempt.proofs.inner.walk_types.Goals as goal
use Rattle.attempt.proofs.inner.walk_types.Goals.{After-add_body-total, In_ok-kind}

-- the type that was read, and where it ends
read : (c : In_ok-kind) →
    varint_at c.args.bytes.now c.loop-at.at ≡ Some (c.in_ok-kind.kind, c.in_ok-kind.next)
read c = sym (rw c.new.ensures at c.serial_type.ensures) ∙ c.in_ok-kind.was

past : (c : In_ok-kind) → c.loop-at.at < c.in_ok-kind.next.at
past c = (varint_lies _ _ _ _ (read c)).past

pub loop-at-init : goal.loop-at-init
loop-at-init c = (omega arith, omega arith, omega arith, left_start _ _ _ _ _ _ _ (omega arith) refl)

pub returns-in_err-kind : goal.returns-in_err-kind
returns-in_err-kind c =
    rw c.from_residual.ensures
    (left_cut _ _ _ _ _ _ _ _ _ _ c.loop-at-test.true (sym (rw c.new.ensures at c.serial_type.ensures) ∙ c.in_err-kind.was) c.loop-at.invariant.3)

-- a type more was read, and m is the mark with it
again : (c : After-add_body-total) (m : Bool) →
    let matched = c.loop-at.matched + c.suits_at-matched.result in
    (c.loop-at.padded || c.in_ok-kind.next.padded) ≡ m
    → (c.args.from + (c.loop-at.count + 1) ≤ c.in_ok-kind.next.at) × (matched ≤ c.loop-at.count + 1) × (c.add_body-total.result ≤ too_long)
    × Left c.args.bytes.now c.args.hints.now (header_types c.args.bytes.now c.args.o c.args.head c.args.from) (c.args.own || types_padded c.args.head c.args.bytes.now c.args.from (c.args.o + c.args.head))
    c.in_ok-kind.next.at (c.args.o + c.args.head) (c.loop-at.count + 1) matched c.add_body-total.result m
again c m e =
    let p = (let h : c.loop-at.at < c.in_ok-kind.next.at = (varint_lies _ _ _ _ ((sym (rw c.new.ensures at c.serial_type.ensures) ∙ c.in_ok-kind.was))).past in h) in (
      omega arith,
      omega (arith, c.suits_at-matched.ensures.small),
      omega (arith, c.add_body-total.ensures),
      rw (c.suits_at-matched.ensures.value, c.add_body-total.ensures)
          (rw e at (left_step _ _ _ _ _ _ _ _ _ _ _ _ c.loop-at-test.true p ((sym (rw c.new.ensures at c.serial_type.ensures) ∙ c.in_ok-kind.was)) c.loop-at.invariant.3)),
    )

pub loop-at-smaller-then-next : goal.loop-at-smaller-then-next
loop-at-smaller-then-next c = omega (arith, past (goal.at.loop-at-smaller-then-next c).In_ok-kind)

pub loop-at-preserved-then-next : goal.loop-at-preserved-then-next
loop-at-preserved-then-next c = again (goal.at.loop-at-preserved-then-next c).After-add_body-total true (mark_set c.loop-at.padded _ c.if-next.true)

pub loop-at-smaller : goal.loop-at-smaller
loop-at-smaller c = omega (arith, past (goal.at.loop-at-smaller c).In_ok-kind)

pub loop-at-preserved : goal.loop-at-preserved
loop-at-preserved c = again (goal.at.loop-at-preserved c).After-add_body-total _ (mark_left c.loop-at.padded _ c.if-next.false)

pub returns : goal.returns
returns c = left_end _ _ _ _ _ _ _ _ _ _ c.loop-at-test.false c.loop-at.invariant.3
