-- `learn::learn::clear` meets its contract. The loop's invariant: only the types from index i on may still have a count.
-- Assumes nothing.
use Rattle.learn.proofs.Tallying.{Clearing}
use Rattle.learn.proofs.learn.clear.Given as goal

abbrev pub invariant-loop-kind : goal.invariant-loop-kind
invariant-loop-kind l = Clearing l.table l.kinds l.kind-index
