-- `cells::inner::cell::carve_cells` meets its contract: what the loop has carved are the cells so far (`Looking`).
-- Assumes nothing.
use Rattle.std.specs.Prelude.{◌-◌, length}
use Rattle.cells.proofs.Looking.{Looking}
use Rattle.cells.proofs.inner.cell.carve_cells.Given as goal

abbrev pub invariant-loop-pos : goal.invariant-loop-pos
invariant-loop-pos l = Looking l.payload l.hints l.spot l.o l.initial.sheet l.sheet l.pos

abbrev pub decreases-loop-pos : goal.decreases-loop-pos
decreases-loop-pos l = length l.payload - l.pos
