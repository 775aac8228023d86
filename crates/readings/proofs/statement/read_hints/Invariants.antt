-- `readings::statement::read_hints` meets its contract. The loop's invariant: the hints written and those of the pieces from `at` on are all hints.
-- Assumes nothing.
use Prim.Native.Nat.{◌+◌, ◌-◌, ◌≤◌}
use mathlib.Core.Path.{◌≡◌}
use lib.ListN.{length}
use Rattle.readings.specs.Statement.{all_hints}
use Rattle.words.specs.Inner.{pieces_from}
use Rattle.words.specs.Words.{pieces}
use Rattle.readings.proofs.StatementLaws.{Written}
use Rattle.readings.proofs.statement.read_hints.Given as goal

abbrev pub invariant-loop-at : goal.invariant-loop-at
invariant-loop-at l = record {
  same : length l.hints ≡ length l.initial.hints;
  few : l.n ≤ l.at;
  written : Written (all_hints l.reading (pieces l.columns)) (all_hints l.reading (pieces_from l.columns l.at)) l.initial.hints l.hints l.n;
}

abbrev pub decreases-loop-at : goal.decreases-loop-at
decreases-loop-at l = length l.columns + 1 - l.at
