-- `walk::inner::expand` meets its contract: each type of page is a law of `proofs/Pushing.antt`.
-- Assumes nothing.
use mathlib.Core.Path.{sym, ◌∙◌}
use native.Mathlib.Omega.{arith}
use Rattle.std.proofs.lemmas.Result.{err_from_is_err_and}
use Rattle.walk.proofs.Pushing.{page_leaf, page_other, inner_on, inner_overflow}
use Rattle.walk.proofs.inner.expand.Goals as goal

pub returns-in-13-clause-result_after : goal.returns-in-13-clause-result_after
returns-in-13-clause-result_after c = page_leaf _ _ _ _ (sym c.page_type.ensures ∙ c.in-13.is)

pub returns-in_default-clause-result_after : goal.returns-in_default-clause-result_after
returns-in_default-clause-result_after c = page_other _ _ _ _ (λ e. omega (arith, c.page_type.ensures)) (λ e. omega (arith, c.page_type.ensures))

pub returns-in_err-push_child-in-5-clause-result_after : goal.returns-in_err-push_child-in-5-clause-result_after
returns-in_err-push_child-in-5-clause-result_after c =
    let p = err_from_is_err_and c.from_residual.result c.from_residual.ensures.1 in
    rw p.1 (inner_overflow _ _ _ _ (sym c.page_type.ensures ∙ c.in-5.is) c.in_err-push_child-in-5.ensures.result_after)

pub returns-in_err-push_cells-in-5-clause-result_after : goal.returns-in_err-push_cells-in-5-clause-result_after
returns-in_err-push_cells-in-5-clause-result_after c =
    let p = err_from_is_err_and c.from_residual-in_err-push_cells-in-5.result c.from_residual-in_err-push_cells-in-5.ensures.1 in
    let f = rw (c.cell_count.ensures.value, c.in_ok-push_child-in-5.ensures.kept.depth) at c.in_err-push_cells-in-5.ensures.result_after in
    rw p.1 (inner_on _ _ _ _ _ _ (sym c.page_type.ensures ∙ c.in-5.is) c.in_ok-push_child-in-5.ensures.result_after f)

pub returns-in_ok-push_cells-in-5-clause-result_after : goal.returns-in_ok-push_cells-in-5-clause-result_after
returns-in_ok-push_cells-in-5-clause-result_after c =
    let f = rw (c.cell_count.ensures.value, c.in_ok-push_child-in-5.ensures.kept.depth) at c.in_ok-push_cells-in-5.ensures.result_after in
    inner_on _ _ _ _ _ _ (sym c.page_type.ensures ∙ c.in-5.is) c.in_ok-push_child-in-5.ensures.result_after f
