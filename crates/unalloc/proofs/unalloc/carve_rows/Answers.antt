-- `unalloc::unalloc::carve_rows` meets its contract: what the loop has added are the rows so far (`Rows`).
-- Assumes nothing.
use native.Mathlib.Omega.{arith}
use lib.ListN.{length}
use Rattle.modes.specs.Inner.{HitIs}
use Rattle.unalloc.proofs.Running.{row_ends, rows_start, rows_fitting, rows_done, rows_missed, rows_over, rows_one}
use Rattle.unalloc.specs.Learned.{attempt_at}
use Rattle.unalloc.proofs.unalloc.carve_rows.Goals as goal
use Rattle.unalloc.proofs.unalloc.carve_rows.Goals.{In-Some}

pub loop-o-init : goal.loop-o-init
loop-o-init c = rows_start _ _ _ _ c.requires.ready.fits

-- the row that was found
found : (c : In-Some) → HitIs c.args.region.now (length c.args.types.now) (attempt_at c.args.region.now c.args.types.now c.loop-o.o) c.in-Some.find
found c = rw c.in-Some.is at c.try_at.ensures

pub add_find-requires : goal.add_find-requires
add_find-requires c = rows_fitting _ _ _ _ _ _ c.loop-o.invariant c.requires.ready c.requires.types _ (found (goal.at.add_find-requires c).In-Some)

pub returns-in_err-o-in-Some : goal.returns-in_err-o-in-Some
returns-in_err-o-in-Some c =
    rw c.from_residual.ensures
    (rows_over _ _ _ _ _ _ c.loop-o.invariant c.loop-o-test.true _ (found (goal.at.returns-in_err-o-in-Some c).In-Some) _ c.in_err-o-in-Some.ensures.row)

pub loop-o-smaller-in_ok-o-in-Some : goal.loop-o-smaller-in_ok-o-in-Some
loop-o-smaller-in_ok-o-in-Some c =
    let m = row_ends _ _ _ _ (found (goal.at.loop-o-smaller-in_ok-o-in-Some c).In-Some).is in omega (arith, c.in_ok-o-in-Some.ensures.end, m.0, m.1)

pub loop-o-preserved-in_ok-o-in-Some : goal.loop-o-preserved-in_ok-o-in-Some
loop-o-preserved-in_ok-o-in-Some c =
    rw c.in_ok-o-in-Some.ensures.end
    (rows_one _ _ _ _ _ _ c.loop-o.invariant c.loop-o-test.true _ (found (goal.at.loop-o-preserved-in_ok-o-in-Some c).In-Some) _ c.in_ok-o-in-Some.ensures.row)

pub loop-o-preserved : goal.loop-o-preserved
loop-o-preserved c = rows_missed _ _ _ _ _ _ c.loop-o.invariant c.loop-o-test.true (rw c.in-None.is at c.try_at.ensures)

pub returns : goal.returns
returns c = rows_done _ _ _ _ _ _ c.loop-o.invariant (omega (arith, c.loop-o-test.false))
