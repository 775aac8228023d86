-- `search::search::shifts` meets its contract. The loop's invariant: the first i bytes are entered.
-- Assumes nothing.
use Rattle.search.specs.Inner.{Entered}
use Rattle.search.proofs.search.shifts.Given as goal

abbrev pub invariant-loop-i : goal.invariant-loop-i
invariant-loop-i l = Entered l.pattern l.i l.table
