-- `cases::line::say_cells`: an output that is whole was whole at each cell.
-- Assumes nothing.
use Rattle.streams.specs.Moving.{StillWhole}
use Rattle.cases.proofs.line.say_cells.Given as goal

abbrev pub invariant-loop-i : goal.invariant-loop-i
invariant-loop-i l = StillWhole l.initial.said l.said
