-- The values of the rows that the call writes (rule 14.6): those of rule 12.9, each row's at its own places.
-- Assumes nothing.
use Rattle.std.specs.Prelude.{ℕ, List}
use Rattle.modes.specs.Values.{rows_values}
use Rattle.record.specs.declared.record.Value.{Value}
use Rattle.sheet.specs.Values.{written_values}
use Rattle.unalloc.specs.Learned.{rows_found, learned_filling}

-- Rule 14.6
unfoldable pub learned_values : List ℕ → List ℕ → ℕ → List ℕ → List ℕ → List Value
learned_values s ls base rows cols = written_values (learned_filling s ls base rows cols) (rows_values s (rows_found s ls))
