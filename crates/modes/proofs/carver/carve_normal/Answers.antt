-- `modes::carver::carve_normal` meets its contract: what the loop has added are the rows so far (`Normals`).
-- Assumes nothing.
use native.Mathlib.Omega.{arith}
use Rattle.modes.proofs.Running.{normal_ends, normals_start, normals_fitting, normals_width, normals_stop, normals_end, normals_over, normals_one}
use Rattle.modes.specs.Inner.{HitIs}
use Rattle.modes.specs.Modes.{normal_at}
use Rattle.modes.proofs.carver.carve_normal.Goals as goal
use Rattle.modes.proofs.carver.carve_normal.Goals.{In-Some}

pub loop-o-init : goal.loop-o-init
loop-o-init c = normals_start _ _ _ _ c.requires.fits

-- the row that was found
found : (c : In-Some) → HitIs c.args.bytes.now c.args.sheet.now.width (normal_at c.args.bytes.now c.args.sheet.now.width c.loop-o.o) c.in-Some.find
found c = rw (normals_width _ _ _ _ _ _ c.loop-o.invariant) at (rw c.in-Some.is at c.try_carve_normal.ensures)

pub add_find-requires : goal.add_find-requires
add_find-requires c = normals_fitting _ _ _ _ _ _ c.loop-o.invariant c.requires _ (found (goal.at.add_find-requires c).In-Some)

pub returns-in_err-o : goal.returns-in_err-o
returns-in_err-o c =
    rw c.from_residual.ensures
    (normals_over _ _ _ _ _ _ c.loop-o.invariant c.loop-o-test.true _ (found (goal.at.returns-in_err-o c).In-Some) _ c.in_err-o.ensures.row)

pub loop-o-smaller : goal.loop-o-smaller
loop-o-smaller c = let m = normal_ends _ _ _ _ (found (goal.at.loop-o-smaller c).In-Some).is in omega (arith, c.in_ok-o.ensures.end, m.0, m.1)

pub loop-o-preserved : goal.loop-o-preserved
loop-o-preserved c =
    rw c.in_ok-o.ensures.end
    (normals_one _ _ _ _ _ _ c.loop-o.invariant c.loop-o-test.true _ (found (goal.at.loop-o-preserved c).In-Some) _ c.in_ok-o.ensures.row)

pub returns-after-loop-o : goal.returns-after-loop-o
returns-after-loop-o c = normals_end _ _ _ _ _ _ c.loop-o.invariant (omega (arith, c.loop-o-test.false))

pub returns-in_default : goal.returns-in_default
returns-in_default c =
    normals_stop _ _ _ _ _ _ c.loop-o.invariant c.loop-o-test.true (rw (normals_width _ _ _ _ _ _ c.loop-o.invariant) at (rw c.in_default.is at c.try_carve_normal.ensures))
