-- `walk::inner::Stack::pop` meets its contract.
-- Assumes nothing.
use native.Mathlib.Omega.{arith}
use Rattle.walk.proofs.Pushing.{tops_none, tops_pop}
use Rattle.walk.proofs.inner.Stack.pop.Goals as goal

pub returns-then-self-eq0-clause-result_after : goal.returns-then-self-eq0-clause-result_after
returns-then-self-eq0-clause-result_after c = tops_none _ _ c.if-self-eq0.true

pub returns-clause-result_after : goal.returns-clause-result_after
returns-clause-result_after c = tops_pop _ _ (omega (arith, c.if-self-eq0.false))
