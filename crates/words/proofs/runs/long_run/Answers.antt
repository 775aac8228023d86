-- `words::runs::long_run` meets its contract: what whole blocks leave of the run is counted byte by byte.
-- Assumes nothing.
use native.Mathlib.Omega.{arith}
use lib.ListN.{length-drop}
use Rattle.words.proofs.Laws.{part_from, run_rest}
use Rattle.words.proofs.runs.long_run.Goals as goal

pub overflow_add-result : goal.overflow_add-result
overflow_add-result c = grind (arith, length-drop, part_from)

pub returns : goal.returns
returns c = record { value = grind (arith, run_rest); within = grind (arith, length-drop, part_from) }
