-- `groups::inner::judge_rows` meets its contract.
-- Assumes nothing.
use mathlib.Core.Path.{◌∙◌}
use Rattle.groups.proofs.Judging.{rows_step, rows_refused, rows_ended}
use Rattle.groups.proofs.inner.judge_rows.Goals as goal

pub returns-in_err-judge_row : goal.returns-in_err-judge_row
returns-in_err-judge_row c =
    c.from_residual.ensures ∙ rows_refused c.loop-i.invariant c.loop-i-test.true c.judge_row.ensures c.in_err-judge_row.was

pub loop-i-preserved : goal.loop-i-preserved
loop-i-preserved c =
    rows_step c.loop-i.invariant c.loop-i-test.true c.judge_row.ensures c.in_ok-judge_row.was c.max-most.ensures

pub returns : goal.returns
returns c = rows_ended c.loop-i.invariant c.loop-i-test.false
