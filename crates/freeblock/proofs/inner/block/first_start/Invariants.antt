-- `freeblock::inner::block::first_start` meets its contract. The loop's invariant: the starts from v on decide (`Looks`).
-- Assumes nothing.
use Prim.Native.Nat.{min}
use lib.ListN.{length}
use Rattle.freeblock.proofs.Starting.{Looks}
use Rattle.freeblock.specs.Freeblock.{most_starts}
use Rattle.freeblock.proofs.inner.block.first_start.Given as goal

abbrev pub invariant-loop-v : goal.invariant-loop-v
invariant-loop-v l = Looks l.payload l.hints (min most_starts (length l.payload)) l.v
