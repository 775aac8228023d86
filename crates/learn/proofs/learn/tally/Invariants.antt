-- `learn::learn::tally` meets its contract. The loop's invariant: the first i types are counted.
-- Assumes nothing.
use Rattle.learn.proofs.Tallying.{Tallying}
use Rattle.learn.proofs.learn.tally.Given as goal

abbrev pub invariant-loop-kind : goal.invariant-loop-kind
invariant-loop-kind l = Tallying l.table l.kinds l.kind-index
