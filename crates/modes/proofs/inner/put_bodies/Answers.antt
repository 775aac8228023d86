-- `modes::inner::put_bodies` meets its contract: what the loop has written, with what is left, comes to the whole (`Written`).
-- Assumes nothing.
use mathlib.Core.Path.{sym, ◌∙◌}
use Rattle.modes.proofs.Writing.{written_step, written_cut, written_all}
use Rattle.modes.proofs.inner.put_bodies.Goals as goal

pub loop-k-preserved : goal.loop-k-preserved
loop-k-preserved c =
    rw (c.behind-end.ensures, c.column_at-column.ensures.value)
    (written_step _ _ _ _ _ _ _ _ _ _ c.loop-k.invariant c.loop-k-test.true _ _ _ (rw c.new.ensures at (sym c.serial_type.ensures ∙ c.in-Some.is)) (rw c.column_at-column.ensures.value at c.put_column.ensures) c.put_column.auto.cols)

pub returns-after-loop-k-clause-end : goal.returns-after-loop-k-clause-end
returns-after-loop-k-clause-end c = (written_all _ _ _ _ _ _ _ _ _ _ c.loop-k.invariant c.loop-k-test.false).0

pub returns-after-loop-k-clause-cols : goal.returns-after-loop-k-clause-cols
returns-after-loop-k-clause-cols c = (written_all _ _ _ _ _ _ _ _ _ _ c.loop-k.invariant c.loop-k-test.false).1

pub returns-in_default-clause-end : goal.returns-in_default-clause-end
returns-in_default-clause-end c = (written_cut _ _ _ _ _ _ _ _ _ _ c.loop-k.invariant c.loop-k-test.true (rw c.new.ensures at (sym c.serial_type.ensures ∙ c.in_default.is))).0

pub returns-in_default-clause-cols : goal.returns-in_default-clause-cols
returns-in_default-clause-cols c = (written_cut _ _ _ _ _ _ _ _ _ _ c.loop-k.invariant c.loop-k-test.true (rw c.new.ensures at (sym c.serial_type.ensures ∙ c.in_default.is))).1
