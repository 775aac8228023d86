-- `attempt::inner::header::miscounted` meets its contract: of whole types the loop has skipped as many as it has made turns (`Skipped`).
-- Assumes nothing.
use Prim.Native.Nat.{◌+◌}
use Rattle.attempt.specs.Inner.{header_types}
use Rattle.attempt.proofs.Skipping.{Skipped}
use Rattle.attempt.proofs.inner.header.miscounted.Given as goal

abbrev pub invariant-loop : goal.invariant-loop
invariant-loop l = Skipped l.bytes (l.o + l.head) (header_types l.bytes l.o l.head l.from) l.at l.counter
