-- `gap::inner::region::carve_region` meets its contract: what the loop has carved, with what is left of the run, are the hits of the whole run (`Scanning`).
-- Assumes nothing.
use Prim.Native.Nat.{◌-◌}
use lib.ListN.{length}
use Rattle.filter.specs.Inner.{IsHigh}
use Rattle.gap.proofs.Regions.{Scanning}
use Rattle.gap.proofs.inner.region.carve_region.Given as goal

abbrev pub invariant-loop-next : goal.invariant-loop-next
invariant-loop-next l = record { scanning : Scanning l.bytes l.from l.hints l.spot l.initial.sheet l.sheet l.o; high : IsHigh l.bytes l.met }

abbrev pub decreases-loop-next : goal.decreases-loop-next
decreases-loop-next l = length l.bytes - l.o
