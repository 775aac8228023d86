-- `learn::learn::seek` meets its contract.
-- Assumes nothing.
use Rattle.learn.proofs.Counting.{led_none, led_more, led_all}
use Rattle.learn.proofs.learn.seek.Goals as goal

pub look_up-requires : goal.look_up-requires
look_up-requires c = c.requires

pub loop-kind-init : goal.loop-kind-init
loop-kind-init c = led_none _ _ c.look_up.ensures

pub challenge-leader-requires : goal.challenge-leader-requires
challenge-leader-requires c = record { tallied = c.requires; leader_counted = c.loop-kind.invariant.counts }

pub loop-kind-preserved : goal.loop-kind-preserved
loop-kind-preserved c = led_more c.loop-kind.invariant _ c.loop-kind-test.true c.challenge-leader.ensures.kind_value c.challenge-leader.ensures.counts

pub returns : goal.returns
returns c = led_all c.loop-kind.invariant c.loop-kind-test.false
