-- `learn::learn::tally` meets its contract.
-- Assumes nothing.
use native.Mathlib.Omega.{arith}
use lib.ListN.{get_or}
use Rattle.learn.proofs.Tallying.{tallying_none, tallying_most, tallying_more, tallying_all}
use Rattle.learn.proofs.learn.tally.Goals as goal

pub loop-kind-init : goal.loop-kind-init
loop-kind-init c = tallying_none _ c.requires.tallied

pub count_up-requires : goal.count_up-requires
count_up-requires c = omega (arith, tallying_most c.loop-kind.invariant (get_or c.args.kinds.now c.loop-kind.kind-index 0))

pub loop-kind-preserved : goal.loop-kind-preserved
loop-kind-preserved c = tallying_more c.loop-kind.invariant c.loop-kind-test.true c.count_up.ensures

pub returns : goal.returns
returns c = tallying_all c.loop-kind.invariant c.loop-kind-test.false
