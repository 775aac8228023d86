-- `attempt::inner::put_columns` meets its contract: what the loop has written, with what is left, comes to the whole group (`Writing`).
-- Assumes nothing.
use Rattle.std.specs.Prelude.{Some}
use Prim.Native.Nat.{◌+◌, ◌<◌, ◌≤◌}
use mathlib.Core.Path.{◌≡◌, sym, ◌∙◌}
use native.Mathlib.Omega.{arith}
use lib.ListN.{length}
use Rattle.record.proofs.Laws.{varint_lies}
use Rattle.record.specs.Varint.{varint_at}
use Rattle.sheet.specs.Limits.{words_per_entry, largest_region}
use Rattle.attempt.proofs.Writing.{writing_start, writing_long, writing_room, writing_step, writing_cut, writing_end}
use Rattle.attempt.proofs.inner.put_columns.Goals as goal
use Rattle.attempt.proofs.inner.put_columns.Goals.{After-body_size-len, In-Some}

-- the type that was read
read : (c : In-Some) →
    varint_at c.args.bytes.now c.loop-at.at ≡ Some (c.in-Some.kind, c.in-Some.next)
read c = sym (rw c.new.ensures at c.serial_type.ensures) ∙ c.in-Some.is

past : (c : In-Some) → c.loop-at.at < c.in-Some.next.at
past c = (varint_lies _ _ _ _ (read c)).past

-- there is room for its column, and its body ends in the region
room : (c : After-body_size-len) →
    (c.loop-at.to + words_per_entry ≤ length c.loop-at.cols) × (length c.loop-at.cols ≡ length c.args.cols.now) × (c.loop-at.start + c.body_size-len.result ≤ largest_region)
room c =
    let long = writing_long _ _ _ _ _ _ _ _ _ _ c.loop-at.invariant in
    let w = writing_room _ _ _ _ _ _ _ _ _ _ _ _ c.loop-at-test.true ((sym (rw c.new.ensures at c.serial_type.ensures) ∙ c.in-Some.is)) c.loop-at.invariant in
    (omega (arith, w.0, c.requires.room_for_entries), long, rw c.body_size-len.ensures (omega (arith, w.1, c.requires.bodies_in_bounds, c.requires.bytes_bound)))

pub loop-at-init : goal.loop-at-init
loop-at-init c = writing_start _ _ _ _ _ _ _ (omega arith)

pub returns-in_default : goal.returns-in_default
returns-in_default c = writing_cut _ _ _ _ _ _ _ _ _ _ c.loop-at-test.true (sym (rw c.new.ensures at c.serial_type.ensures) ∙ c.in_default.is) c.loop-at.invariant

pub put_column-requires : goal.put_column-requires
put_column-requires c = (room (goal.at.put_column-requires c).After-body_size-len).0

pub overflow_add-start-in-loop-at : goal.overflow_add-start-in-loop-at
overflow_add-start-in-loop-at c = omega (arith, (room (goal.at.overflow_add-start-in-loop-at c).After-body_size-len).2)

pub overflow_add-to : goal.overflow_add-to
overflow_add-to c =
    let r = room (goal.at.overflow_add-to c).After-body_size-len in
    omega (arith, c.well_formed)

pub loop-at-smaller : goal.loop-at-smaller
loop-at-smaller c = omega (arith, past (goal.at.loop-at-smaller c).In-Some)

pub loop-at-preserved : goal.loop-at-preserved
loop-at-preserved c =
    rw c.body_size-len.ensures
    (writing_step _ _ _ _ _ _ _ _ _ _ _ _ c.loop-at-test.true (read (goal.at.loop-at-preserved c).In-Some) _ (past (goal.at.loop-at-preserved c).In-Some)
    (rw c.body_size-len.ensures at c.put_column.ensures) c.put_column.auto.cols c.loop-at.invariant)

pub returns : goal.returns
returns c = writing_end _ _ _ _ _ _ _ _ _ _ c.loop-at-test.false c.loop-at.invariant
