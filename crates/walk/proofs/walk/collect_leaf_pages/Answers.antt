-- `walk::walk::collect_leaf_pages` meets its contract: behind the checks flags and stack are cleared.
-- Assumes nothing.
use mathlib.Core.Path.{sym, ◌∙◌}
use lib.ListN.{length}
use Rattle.std.proofs.lemmas.Result.{err_from_is_err_and}
use Rattle.walk.specs.Collect.{leaves_asked}
use Rattle.walk.proofs.Calls.{passed_size, call_refused, call_passed}
use Rattle.walk.proofs.walk.collect_leaf_pages.Goals as goal

pub returns-in_err-check : goal.returns-in_err-check
returns-in_err-check c =
    let p = err_from_is_err_and c.from_residual.result c.from_residual.ensures.1 in
    rw (p.1, p.2) (call_refused _ _ (sym c.check.ensures ∙ c.in_err-check.was))

pub collect-answer-requires-clause-le_size : goal.collect-answer-requires-clause-le_size
collect-answer-requires-clause-le_size c = (passed_size (length c.args.db.now) _ (sym c.check.ensures ∙ c.in_ok-check.was)).0

pub collect-answer-requires-clause-size_bound : goal.collect-answer-requires-clause-size_bound
collect-answer-requires-clause-size_bound c = (passed_size (length c.args.db.now) _ (sym c.check.ensures ∙ c.in_ok-check.was)).1

pub returns : goal.returns
returns c =
    rw (c.fill.ensures.after (λ y h. h), c.fill-2.ensures.after (λ y h. h), c.collect-answer.auto.flags, c.collect-answer.auto.stack)
    (call_passed (leaves_asked c.args.db.now c.args.size c.args.root c.args.flags.now c.args.stack.now c.args.leaves.now) _ _
    (sym c.check.ensures ∙ c.in_ok-check.was) c.collect-answer.ensures)
