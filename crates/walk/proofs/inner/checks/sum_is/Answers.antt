-- `walk::inner::checks::sum_is` meets its contract.
-- Assumes nothing.
use native.Mathlib.Omega.{arith}
use Rattle.walk.proofs.Summing.{left_more, left_short, left_all}
use Rattle.walk.proofs.inner.checks.sum_is.Goals as goal

pub loop-count-init : goal.loop-count-init
loop-count-init c = omega arith

pub returns-then-count-left : goal.returns-then-count-left
returns-then-count-left c = left_short _ _ _ _ c.loop-count.invariant c.loop-count-test.true c.if-count-left.true

pub loop-count-preserved : goal.loop-count-preserved
loop-count-preserved c = left_more _ _ _ _ c.loop-count.invariant c.loop-count-test.true c.if-count-left.false

pub returns : goal.returns
returns c = left_all _ _ _ _ c.loop-count.invariant c.loop-count-test.false
