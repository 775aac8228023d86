-- `record::inner::big_endian` meets its contract. The loop's invariant: v is the number that the bytes so far are.
-- Assumes nothing.
use Rattle.std.specs.Prelude.{◌≡◌, ◌*◌, ◌^◌, ◌<◌}
use Rattle.record.specs.Value.{big_endian}
use Rattle.record.proofs.inner.big_endian.Given as goal

abbrev pub invariant-loop-byte : goal.invariant-loop-byte
invariant-loop-byte l = (l.v < 2 ^ (8 * l.byte-index)) × (l.v ≡ big_endian l.bytes l.at l.byte-index)
