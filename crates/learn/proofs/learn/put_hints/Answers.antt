-- `learn::learn::put_hints` meets its contract.
-- Assumes nothing.
use mathlib.Core.Path.{◌∙◌}
use native.Mathlib.Omega.{arith}
use Rattle.learn.proofs.Learning.{put_start, put_more, put_end}
use Rattle.learn.proofs.learn.put_hints.Goals as goal

pub loop-c-init : goal.loop-c-init
loop-c-init c = (c.requires.tallied, put_start _ _ _ _)

pub hint_of-requires : goal.hint_of-requires
hint_of-requires c =
    record { lent = c.requires.lent; column_lt_width = omega arith; kinds_len = c.loop-c.auto.kinds ∙ c.requires.kinds_len; tallied = c.loop-c.invariant.0 }

pub loop-c-preserved : goal.loop-c-preserved
loop-c-preserved c = (c.hint_of.ensures.clear, put_more c.loop-c.invariant.1 c.requires.columns_in_bounds c.loop-c-test.true c.hint_of.ensures.value)

pub returns : goal.returns
returns c = put_end c.loop-c.invariant.1 c.loop-c-test.false
