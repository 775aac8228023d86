-- `learn::learn::seek` meets its contract. The loop's invariant: the leader is the best of the first i types.
-- Assumes nothing.
use Rattle.learn.proofs.Counting.{Led}
use Rattle.learn.proofs.learn.seek.Given as goal

abbrev pub invariant-loop-kind : goal.invariant-loop-kind
invariant-loop-kind l = Led l.kinds l.kind-index l.leader
