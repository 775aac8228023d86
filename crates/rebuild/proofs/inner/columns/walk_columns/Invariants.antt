-- `rebuild::inner::columns::walk_columns` meets its contract: what the loop has read, with what is to come, are all types (`Reading`).
-- Assumes nothing.
use Rattle.std.specs.Prelude.{◌+◌, ◌≤◌, length}
use Rattle.attempt.specs.Inner.{too_long}
use Rattle.rebuild.proofs.Reading.{Reading}
use Rattle.rebuild.proofs.inner.columns.walk_columns.Given as goal

abbrev pub invariant-loop-count : goal.invariant-loop-count
invariant-loop-count l =
    (l.v + l.count ≤ l.at) × (l.at ≤ length l.payload) × (l.matched ≤ l.count) × (l.total ≤ too_long) × Reading l.payload l.hints l.v l.at l.count l.matched l.total l.padded
