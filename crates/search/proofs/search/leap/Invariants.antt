-- `search::search::leap` meets its contract. The loop's invariant: no place is passed over.
-- Assumes nothing.
use Prim.Native.Nat.{◌-◌}
use lib.ListN.{length}
use Rattle.search.specs.Inner.{Skips}
use Rattle.search.proofs.search.leap.Given as goal

abbrev pub invariant-loop-i : goal.invariant-loop-i
invariant-loop-i l = Skips l.haystack l.pattern l.from l.i

abbrev pub decreases-loop-i : goal.decreases-loop-i
decreases-loop-i l = length l.haystack - l.i
