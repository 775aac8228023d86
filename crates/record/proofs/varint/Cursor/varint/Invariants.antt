-- `Cursor::varint` meets its contract. The loop's invariant: n bytes before `at` gave v, and the varint is what is read on from there.
-- Assumes nothing.
use Rattle.std.specs.Prelude.{◌≡◌, ◌-◌, ◌*◌, ◌^◌, ◌<◌, ◌≤◌}
use Rattle.record.specs.Varint.{varint_from, varint_at}
use Rattle.record.proofs.varint.Cursor.varint.Given as goal

abbrev pub invariant-loop-n : goal.invariant-loop-n
invariant-loop-n l = (l.n ≤ 8) × (l.v < 2 ^ (7 * l.n)) × (varint_at l.bytes l.initial.at ≡ varint_from l.bytes l.at l.v (8 - l.n))
