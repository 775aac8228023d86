-- `walk::inner::push_cells` meets its contract.
-- Assumes nothing.
use Prim.Native.Nat.{◌+◌, ◌-◌, ◌*◌}
use mathlib.Core.Path.{◌∙◌}
use native.Mathlib.Omega.{arith}
use Rattle.std.proofs.lemmas.Result.{err_from_is_err_and}
use Rattle.walk.proofs.Laws.{keeps_then}
use Rattle.walk.proofs.Pushing.{cells_on, cells_overflow, cells_past, cells_done}
use Rattle.walk.proofs.inner.push_cells.Goals as goal

pub returns-then-at-page-clause-result_after : goal.returns-then-at-page-clause-result_after
returns-then-at-page-clause-result_after c = cells_past _ _ _ _ _ c.if-at-page.true ∙ c.loop-k.invariant.same

pub returns-in_err-push_child-clause-result_after : goal.returns-in_err-push_child-clause-result_after
returns-in_err-push_child-clause-result_after c =
    let e = rw (c.pointer.ensures.value, c.loop-k.invariant.kept.depth) at c.in_err-push_child.ensures.result_after in
    let p = err_from_is_err_and c.from_residual.result c.from_residual.ensures.1 in
    rw p.1
    (cells_overflow _ _ _ _ _ (c.args.count - (c.loop-k.k + 1)) (c.args.from + 2 * (c.loop-k.k + 1)) (omega arith) (omega arith) c.if-at-page.false e
    ∙ c.loop-k.invariant.same)

pub loop-k-preserved : goal.loop-k-preserved
loop-k-preserved c =
    let e = rw (c.pointer.ensures.value, c.loop-k.invariant.kept.depth) at c.in_ok-push_child.ensures.result_after in
    record {
      kept = keeps_then _ _ _ c.loop-k.invariant.kept c.in_ok-push_child.ensures.kept;
      near = omega (arith, c.if-at-page.false, c.requires.page_len_bound);
      same = cells_on _ _ _ _ _ _ _ (omega arith) (omega arith) c.if-at-page.false _ e ∙ c.loop-k.invariant.same;
    }

pub returns-after-loop-k-clause-result_after : goal.returns-after-loop-k-clause-result_after
returns-after-loop-k-clause-result_after c = cells_done _ _ _ _ _ (omega arith) ∙ c.loop-k.invariant.same
