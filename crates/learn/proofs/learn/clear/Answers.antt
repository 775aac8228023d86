-- `learn::learn::clear` meets its contract.
-- Assumes nothing.
use Rattle.learn.proofs.Tallying.{clearing_none, clearing_more, clearing_all}
use Rattle.learn.proofs.learn.clear.Goals as goal

pub loop-kind-init : goal.loop-kind-init
loop-kind-init c = clearing_none c.requires

pub loop-kind-preserved : goal.loop-kind-preserved
loop-kind-preserved c = clearing_more c.loop-kind.invariant c.loop-kind-test.true c.set_back.ensures

pub returns : goal.returns
returns c = clearing_all c.loop-kind.invariant c.loop-kind-test.false
