-- `attempt::inner::header::types_end` meets its contract: reading on from `at` ends where reading the header's types does (`Ends`).
-- Assumes nothing.
use Prim.Native.Nat.{◌+◌, ◌-◌}
use Rattle.attempt.specs.Inner.{header_types, Ends}
use Rattle.attempt.proofs.inner.header.types_end.Given as goal

abbrev pub invariant-loop-at : goal.invariant-loop-at
invariant-loop-at l = Ends l.bytes (header_types l.bytes l.o l.head l.from) l.at (l.o + l.head)

abbrev pub decreases-loop-at : goal.decreases-loop-at
decreases-loop-at l = l.stop - l.at
