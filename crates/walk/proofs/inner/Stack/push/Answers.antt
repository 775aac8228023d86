-- `walk::inner::Stack::push` meets its contract.
-- Assumes nothing.
use mathlib.Core.Path.{sym}
use Rattle.walk.proofs.Pushing.{tops_length, tops_push, push_one, push_full}
use Rattle.walk.proofs.inner.Stack.push.Goals as goal

pub returns-then-self-clause-result_after : goal.returns-then-self-clause-result_after
returns-then-self-clause-result_after c = sym (push_full _ _ _ (rw tops_length c.if-self.true))

pub returns-clause-result_after : goal.returns-clause-result_after
returns-clause-result_after c = rw (tops_push _ _ _ c.if-self.false) (sym (push_one _ _ _ (rw tops_length c.if-self.false)))
