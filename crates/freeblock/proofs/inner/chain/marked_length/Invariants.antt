-- `freeblock::inner::chain::marked_length` meets its contract. The loop's invariant: the places that the chain has been to are marked (`Marked`).
-- Assumes nothing.
use Rattle.freeblock.proofs.Chaining.{Marked}
use Rattle.freeblock.proofs.inner.chain.marked_length.Given as goal

abbrev pub invariant-loop-n : goal.invariant-loop-n
invariant-loop-n l = Marked l.page l.head l.marks l.at l.n
