-- `attempt::inner::walk_types` meets its contract: what the loop has read, with what is left, comes to the whole header (`Left`).
-- Assumes nothing.
use Prim.Native.Nat.{◌+◌, ◌-◌, ◌≤◌}
use mathlib.Core.Bool.{◌||◌}
use Rattle.record.specs.Places.{types_padded}
use Rattle.attempt.specs.Inner.{too_long, header_types}
use Rattle.attempt.proofs.Types.{Left}
use Rattle.attempt.proofs.inner.walk_types.Given as goal

abbrev pub invariant-loop-at : goal.invariant-loop-at
invariant-loop-at l =
    (l.initial.at + l.count ≤ l.at) × (l.matched ≤ l.count) × (l.total ≤ too_long)
    × Left l.bytes l.hints (header_types l.bytes l.o l.head l.initial.at) (l.initial.padded || types_padded l.head l.bytes l.initial.at l.stop) l.at l.stop l.count l.matched l.total l.padded

abbrev pub decreases-loop-at : goal.decreases-loop-at
decreases-loop-at l = l.stop - l.at
