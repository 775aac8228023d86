-- `unalloc::unalloc::read_and_match` meets its contract: what the loop has read, with what is left, comes to the whole (`ReadSoFar`).
-- Assumes nothing.
use Rattle.std.specs.Prelude.{◌+◌, Some}
use mathlib.Core.Path.{◌≡◌, sym, ◌∙◌}
use native.Mathlib.Omega.{arith}
use Rattle.record.proofs.Types.{mark_set, mark_left}
use Rattle.record.specs.Varint.{varint_at}
use Rattle.unalloc.proofs.Reading.{reading_start, reading_cut, reading_out, reading_on, reading_past, reading_all}
use Rattle.unalloc.specs.Inner.{matches_at}
use Rattle.unalloc.proofs.unalloc.read_and_match.Goals as goal
use Rattle.unalloc.proofs.unalloc.read_and_match.Goals.{In_ok-kind, then-serial_types_compatible, else-serial_types_compatible, then-next, else-next}

pub loop-count-init : goal.loop-count-init
loop-count-init c = reading_start _ _ _ _ c.requires.within

pub returns-then-at-stop : goal.returns-then-at-stop
returns-then-at-stop c = reading_past _ _ _ _ _ _ _ _ _ _ c.loop-count.invariant c.if-at-stop.true

pub returns-in_err-kind : goal.returns-in_err-kind
returns-in_err-kind c =
    rw c.from_residual.ensures
    (reading_cut _ _ _ _ _ _ _ _ _ _ c.loop-count.invariant c.loop-count-test.true c.if-at-stop.false (rw c.new.ensures at (sym c.serial_type.ensures ∙ c.in_err-kind.was)))

-- the type that was read
read : (c : In_ok-kind) → varint_at c.args.region.now c.loop-count.at ≡ Some (c.in_ok-kind.kind, c.in_ok-kind.next)
read c = rw c.new.ensures at (sym c.serial_type.ensures ∙ c.in_ok-kind.was)

pub returns-then-not-is_there : goal.returns-then-not-is_there
returns-then-not-is_there c =
    reading_out _ _ _ _ _ _ _ _ _ _ c.loop-count.invariant c.loop-count-test.true c.if-at-stop.false _ _ (read (goal.at.returns-then-not-is_there c).In_ok-kind) (rw c.column_at-column.ensures.value at (sym c.is_there.ensures ∙ c.if-not-is_there.true))

pub loop-count-preserved : goal.loop-count-preserved
loop-count-preserved c =
    let l = c.loop-count in
    let there = rw c.column_at-column.ensures.value at (sym c.is_there.ensures ∙ c.if-not-is_there.false) in
    let matched : c.if-serial_types_compatible.matched ≡ l.matched + matches_at c.args.types.now l.count c.in_ok-kind.kind = elim c.if-serial_types_compatible.branch [
      | then-serial_types_compatible v ↦ v.matched-is ∙ rw (sym c.serial_types_compatible.ensures ∙ v.if-serial_types_compatible.true)
      | else-serial_types_compatible v ↦ v.matched-is ∙ rw (sym c.serial_types_compatible.ensures ∙ v.if-serial_types_compatible.false) (omega arith)
    ] in
    let on = rw (← c.column_at-column.ensures.value, ← c.behind-end.ensures) at (reading_on _ _ _ _ _ _ _ _ _ _ l.invariant c.loop-count-test.true c.if-at-stop.false _ _ (read (goal.at.loop-count-preserved c).In_ok-kind) there _ matched) in
    elim c.if-next.branch [
      | then-next w ↦ rw w.padded-is (rw (mark_set l.padded _ w.if-next.true) at on)
      | else-next w ↦ rw w.padded-is (rw (mark_left l.padded _ w.if-next.false) at on)
    ]

pub returns : goal.returns
returns c = reading_all _ _ _ _ _ _ _ _ _ _ c.loop-count.invariant (omega (arith, c.loop-count-test.false, c.loop-count.auto.count-end))
