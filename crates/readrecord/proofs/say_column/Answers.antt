-- `readrecord::say_column` is safe, and a body that starts in the record ends in it (`decoded_ends`).
-- Assumes nothing.
use Rattle.std.proofs.Common.{◌+◌, ◌≤◌, length, arith, sym, ◌∙◌}
use Rattle.record.proofs.Laws.{decoded_ends}
use Rattle.readrecord.proofs.say_column.Goals as goal
use Rattle.readrecord.proofs.say_column.Goals.{In-Some}

ends : (c : In-Some) → c.args.start + c.in-Some.n ≤ length c.args.bytes.now
ends c = decoded_ends _ _ _ _ _ c.requires (sym c.decode_serial_type.ensures ∙ c.in-Some.is)

pub overflow_add-next : goal.overflow_add-next
overflow_add-next c = omega (arith, ends c)

pub slice_bounds-say_value-end : goal.slice_bounds-say_value-end
slice_bounds-say_value-end c = omega (arith, ends (goal.at.slice_bounds-say_value-end c).In-Some)
