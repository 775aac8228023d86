-- `freeblock::inner::carve_page` meets its contract: what the loop has carved are the blocks so far (`Carving`).
-- Assumes nothing.
use Rattle.freeblock.proofs.Blocks.{Carving}
use Rattle.freeblock.proofs.inner.carve_page.Given as goal

abbrev pub invariant-loop : goal.invariant-loop
invariant-loop l = Carving l.page l.head l.hints l.spot l.initial.sheet l.sheet l.counter l.at
