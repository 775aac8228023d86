-- `unalloc::unalloc::carve_rows` meets its contract: what the loop has added are the rows so far (`Rows`).
-- Assumes nothing.
use Prim.Native.Nat.{◌-◌}
use lib.ListN.{length}
use Rattle.unalloc.proofs.Running.{Rows}
use Rattle.unalloc.proofs.unalloc.carve_rows.Given as goal

abbrev pub invariant-loop-o : goal.invariant-loop-o
invariant-loop-o l = Rows l.region l.types l.base l.initial.sheet l.o l.sheet

abbrev pub decreases-loop-o : goal.decreases-loop-o
decreases-loop-o l = length l.region - l.o
