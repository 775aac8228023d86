-- `walk::inner::push_child` meets its contract: each way out is a law of `proofs/Pushing.antt`.
-- Assumes nothing.
use mathlib.Core.Path.{sym}
use Rattle.walk.proofs.Pushing.{push_nil, child_past, child_there}
use Rattle.walk.proofs.inner.push_child.Goals as goal

pub returns-then-at-page-clause-result_after : goal.returns-then-at-page-clause-result_after
returns-then-at-page-clause-result_after c = rw (child_past _ _ c.if-at-page.true) (sym (push_nil _ _))

pub returns-clause-result_after : goal.returns-clause-result_after
returns-clause-result_after c = rw (child_there _ _ c.if-at-page.false, ← c.child.ensures) c.push.ensures.result_after
