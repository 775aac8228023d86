-- `modes::inner::read_types` meets its contract: what the loop has read, with what is left, comes to the whole (`Counted`).
-- Assumes nothing.
use mathlib.Core.Path.{◌≡◌, sym, ◌∙◌}
use native.Mathlib.Omega.{arith}
use Rattle.record.proofs.Types.{mark_set, mark_left}
use Rattle.modes.proofs.Reading.{counted_on, counted_cut, counted_past, counted_all}
use Rattle.modes.proofs.inner.read_types.Goals as goal
use Rattle.modes.proofs.inner.read_types.Goals.{then-next, else-next}

pub returns-then-at-stop : goal.returns-then-at-stop
returns-then-at-stop c = counted_past _ _ _ _ _ _ _ _ c.loop-count.invariant c.if-at-stop.true

pub returns-in_err-next : goal.returns-in_err-next
returns-in_err-next c =
    rw c.from_residual.ensures (counted_cut _ _ _ _ _ _ _ _ c.loop-count.invariant c.loop-count-test.true c.if-at-stop.false (rw c.new.ensures at (sym c.serial_type.ensures ∙ c.in_err-next.was)))

pub loop-count-preserved : goal.loop-count-preserved
loop-count-preserved c =
    let read = counted_on _ _ _ _ _ _ _ _ c.loop-count.invariant c.loop-count-test.true c.if-at-stop.false _ _ (rw c.new.ensures at (sym c.serial_type.ensures ∙ c.in_ok-next.was)) in
    elim c.if-next.branch [
      | then-next w ↦ rw w.padded-is (rw (mark_set c.loop-count.padded _ w.if-next.true) at read)
      | else-next w ↦ rw w.padded-is (rw (mark_left c.loop-count.padded _ w.if-next.false) at read)
    ]

pub returns : goal.returns
returns c =
    let all : c.loop-count.count ≡ c.args.most = omega (arith, c.loop-count-test.false, c.loop-count.auto.count-end) in
    rw all at (counted_all _ _ _ _ _ _ _ _ c.loop-count.invariant c.loop-count-test.false)
