-- `groups::inner::judge_row` meets its contract.
-- Assumes nothing.
use mathlib.Core.Path.{◌∙◌}
use borrow.Author.Rules.{rules}
use Rattle.groups.proofs.Judging.{row_start, row_step, row_refused, row_end}
use Rattle.groups.proofs.inner.judge_row.Goals as goal

pub loop-i-init : goal.loop-i-init
loop-i-init c = row_start

pub returns-in_err-n : goal.returns-in_err-n
returns-in_err-n c =
    c.from_residual.ensures ∙ row_refused c.loop-i.invariant _ c.entry_at.ensures c.loop-i-test.true c.judge_entry.ensures c.in_err-n.was

pub loop-i-preserved : goal.loop-i-preserved
loop-i-preserved c =
    row_step c.loop-i.invariant _ c.entry_at.ensures c.loop-i-test.true c.judge_entry.ensures c.in_ok-n.was

pub returns : goal.returns
returns c = row_end c.loop-i.invariant c.loop-i-test.false
