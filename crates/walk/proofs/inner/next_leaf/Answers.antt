-- `walk::inner::next_leaf` meets its contract.
-- Assumes nothing.
use native.Mathlib.Omega.{arith}
use Rattle.std.proofs.lemmas.Result.{err_from_is_err_and}
use Rattle.walk.specs.Inner.{held, stepped_as}
use Rattle.walk.proofs.Laws.{keeps_then}
use Rattle.walk.proofs.Popping.{Pops, pops_less, goes_on, goes_leaf, goes_overflow, goes_done}
use Rattle.walk.proofs.Pushing.{tops_length}
use Rattle.walk.proofs.inner.next_leaf.Goals as goal
use Rattle.walk.proofs.inner.next_leaf.Goals.{After-visit}

-- a page was popped
pops : (c : After-visit) →
    Pops c.args.db.now c.args.size c.loop-page.flags c.loop-page.stack c.in-Some.page (held c.pop.new.self) c.visit.new.flags c.visit.new.stack
    (stepped_as c.visit.new.stack c.visit.result)
pops c =
    record {
      top = c.in-Some.ensures.result_after;
      flagged = omega (arith, c.loop-page.invariant.flags_long, c.requires.flag_for_each_page);
      is = rw c.pop.ensures.kept.depth at c.visit.ensures.result_after;
      marks = c.visit.ensures.flags;
      kept = keeps_then _ _ _ c.pop.ensures.kept c.visit.ensures.kept;
      flags_long = c.visit.auto.flags;
    }

pub returns-in_err-visit-clause-next : goal.returns-in_err-visit-clause-next
returns-in_err-visit-clause-next c =
    let p = err_from_is_err_and c.from_residual.result c.from_residual.ensures.1 in
    let v = rw c.in_err-visit.was at (pops (goal.at.returns-in_err-visit-clause-next c).After-visit) in
    rw p.1 (goes_overflow _ _ _ _ _ _ c.loop-page.invariant _ _ _ _ v p.0)

pub returns-then-branch-clause-next : goal.returns-then-branch-clause-next
returns-then-branch-clause-next c =
    let v = rw (c.in_ok-visit.was, c.if-branch.true) at (pops (goal.at.returns-then-branch-clause-next c).After-visit) in
    goes_leaf _ _ _ _ _ _ c.loop-page.invariant _ _ _ _ v

pub loop-page-smaller : goal.loop-page-smaller
loop-page-smaller c =
    let v = rw (c.in_ok-visit.was, c.if-branch.false) at (pops (goal.at.loop-page-smaller c).After-visit) in
    pops_less _ _ _ _ _ _ _ _ _ v (tops_length _ _)

pub loop-page-preserved : goal.loop-page-preserved
loop-page-preserved c =
    let v = rw (c.in_ok-visit.was, c.if-branch.false) at (pops (goal.at.loop-page-preserved c).After-visit) in
    goes_on _ _ _ _ _ _ c.loop-page.invariant _ _ _ _ v

pub returns-clause-next : goal.returns-clause-next
returns-clause-next c = goes_done _ _ _ _ _ _ c.loop-page.invariant c.pop.new.self c.in_default.ensures.result_after
