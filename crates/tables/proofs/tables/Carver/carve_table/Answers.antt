-- `tables::tables::Carver::carve_table` meets its contract: what the loop has carved are the leaves so far (`Leaves`).
-- Assumes nothing.
use Prim.Native.Nat.{ℕ, ◌/◌}
use mathlib.Core.Path.{◌≡◌, refl, sym, ap, ◌∙◌}
use native.Mathlib.Omega.{arith}
use lib.ListN.{length, replicate}
use Rattle.std.proofs.lemmas.Result.{err_from_is_err_and}
use Rattle.hit.proofs.Laws.{space_then}
use Rattle.walk.proofs.Laws.{keeps_then, keeps_same}
use Rattle.walk.proofs.Tables.{leaves_start, leaves_none, leaves_on, leaves_over, leaves_done, leaves_overflow}
use Rattle.walk.specs.Inner.{need, rest, depth_of, LeafIs}
use Rattle.tables.specs.declared.tables.Stopped.TheVariants.{Full as NoMore}
use Rattle.tables.proofs.tables.Carver.carve_table.Goals as goal
use Rattle.tables.proofs.tables.Carver.carve_table.Goals.{In-Some}

pub returns-in_err-begin-clause-carved : goal.returns-in_err-begin-clause-carved
returns-in_err-begin-clause-carved c =
    let p = err_from_is_err_and c.from_residual.result c.from_residual.ensures.1 in
    rw (p.1, p.2) (leaves_none _ _ _ _ _ _ c.in_err-begin.ensures.result_after c.requires.table_ready.space.fits)

pub loop-page-init : goal.loop-page-init
loop-page-init c =
    let begun = c.in_ok-begin.ensures in
    let e = rw (← begun.kept.depth) at begun.result_after in
    let clear = begun.flags ∙ ap (λ (k : ℕ). replicate k 0) (sym c.begin.auto.flags) in
    record {
      kept = keeps_same _ begun.kept.inside;
      leaves = leaves_start _ _ _ _ _ _ _ _ _ _ e clear refl begun.kept.inside (omega (arith, c.requires.flag_for_each_page, c.begin.auto.flags)) c.requires.table_ready.space.fits;
    }

-- a leaf was popped
found : (c : In-Some) →
    LeafIs c.args.self.now.db.now c.args.self.now.size (rest c.loop-page.invariant.leaves.along.fuel c.args.self.now.db.now c.args.self.now.size c.loop-page.flags c.loop-page.stack.pages.now c.loop-page.stack.top)
    (need (length c.args.self.now.db.now / c.args.self.now.size) (depth_of c.loop-page.stack) c.loop-page.flags c.loop-page.stack.top)
    c.next_leaf.new.flags c.next_leaf.new.stack.pages.now c.in-Some.page c.next_leaf.new.stack.top
found c = rw c.in-Some.is at c.in_ok-page.ensures.next c.loop-page.invariant.leaves.along.fuel c.loop-page.invariant.leaves.along.enough

pub returns-in_err-page-clause-carved : goal.returns-in_err-page-clause-carved
returns-in_err-page-clause-carved c =
    let p = err_from_is_err_and c.from_residual-in_err-page.result c.from_residual-in_err-page.ensures.1 in
    let w = c.loop-page.invariant.leaves in
    rw (p.1, p.2)
    (rw c.begin.ensures.kept.depth at (leaves_overflow _ _ _ _ _ _ _ _ _ _ _ w (c.in_err-page.ensures.next w.along.fuel w.along.enough)))

pub carve_leaf-requires : goal.carve_leaf-requires
carve_leaf-requires c =
    let x = found (goal.at.carve_leaf-requires c).In-Some in
    let ready = c.requires.table_ready in
    record {
      page_there = (x.some, x.there);
      table_ready = record {
        low = ready.low;
        high = ready.high;
        small = ready.small;
        some = ready.some;
        few = ready.few;
        narrow = ready.narrow;
        space = space_then _ _ _ _ ready.space c.loop-page.invariant.leaves.carved;
      };
    }

pub loop-page-smaller : goal.loop-page-smaller
loop-page-smaller c = (found (goal.at.loop-page-smaller c).In-Some).less

pub loop-page-preserved : goal.loop-page-preserved
loop-page-preserved c =
    let x = rw c.in_ok-ok_or.ensures.ok_part at c.carve_leaf.ensures in
    record {
      kept = keeps_then _ _ _ c.loop-page.invariant.kept c.in_ok-page.ensures.kept;
      leaves = leaves_on _ _ _ _ _ _ _ _ _ _ _ c.loop-page.invariant.leaves _ _ _ _ _ (found (goal.at.loop-page-preserved c).In-Some) _ x
          c.in_ok-page.ensures.kept.depth c.next_leaf.auto.flags;
    }

pub returns-in_err-ok_or-clause-carved : goal.returns-in_err-ok_or-clause-carved
returns-in_err-ok_or-clause-carved c =
    let p = err_from_is_err_and c.from_residual-in_err-ok_or.result c.from_residual-in_err-ok_or.ensures.1 in
    let none = c.in_err-ok_or.ensures.ok_part in
    let full : c.in_err-ok_or.field-0.0 ≡ NoMore = let v = rw none at c.in_err-ok_or.ensures.value in cc in
    rw (p.1, p.2, full)
    (rw c.begin.ensures.kept.depth at
    (leaves_over _ _ _ _ _ _ _ _ _ _ _ c.loop-page.invariant.leaves _ _ _ _ _ (found (goal.at.returns-in_err-ok_or-clause-carved c).In-Some) _ (rw none at c.carve_leaf.ensures)))

pub returns-clause-carved : goal.returns-clause-carved
returns-clause-carved c =
    let w = c.loop-page.invariant.leaves in
    rw c.begin.ensures.kept.depth at (leaves_done _ _ _ _ _ _ _ _ _ _ _ w (rw c.in_default.is at c.in_ok-page.ensures.next w.along.fuel w.along.enough))
