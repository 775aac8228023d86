-- `walk::inner::checks::sum_is` meets its contract. The loop's invariant: what is left of the total, and the counts that are left (`Left`).
-- Assumes nothing.
use Rattle.walk.proofs.Summing.{Left}
use Rattle.walk.proofs.inner.checks.sum_is.Given as goal

abbrev pub invariant-loop-count : goal.invariant-loop-count
invariant-loop-count l = Left l.counts l.total l.count-index l.left
