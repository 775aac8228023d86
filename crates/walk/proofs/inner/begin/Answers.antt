-- `walk::inner::begin` meets its contract.
-- Assumes nothing.
use Rattle.walk.specs.Inner.{tops}
use Rattle.walk.proofs.inner.begin.Goals as goal

pub returns-clause-result_after : goal.returns-clause-result_after
unfolding tops
returns-clause-result_after c = c.push.ensures.result_after
