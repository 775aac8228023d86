-- `modes::carver::carve_normal` meets its contract: what the loop has added are the rows so far (`Normals`).
-- Assumes nothing.
use Prim.Native.Nat.{◌-◌}
use lib.ListN.{length}
use Rattle.modes.proofs.Running.{Normals}
use Rattle.modes.proofs.carver.carve_normal.Given as goal

abbrev pub invariant-loop-o : goal.invariant-loop-o
invariant-loop-o l = Normals l.bytes l.base l.initial.sheet.width l.initial.sheet l.o l.sheet

abbrev pub decreases-loop-o : goal.decreases-loop-o
decreases-loop-o l = length l.bytes - l.o
