-- `record::inner::skip_varint` meets its contract. The loop's invariant: the varint is what is read on from `at`, whatever its value so far.
-- Assumes nothing.
use Rattle.std.specs.Prelude.{◌≡◌, ℕ, ◌-◌}
use Rattle.record.specs.Varint.{varint_from, varint_at}
use Rattle.record.proofs.inner.skip_varint.Given as goal

abbrev pub invariant-loop : goal.invariant-loop
invariant-loop l = (v : ℕ) × (varint_at l.bytes l.from ≡ varint_from l.bytes l.at v (8 - l.counter))
