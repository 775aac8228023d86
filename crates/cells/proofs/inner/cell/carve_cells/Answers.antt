-- `cells::inner::cell::carve_cells` meets its contract: what the loop has carved are the cells so far (`Looking`).
-- Assumes nothing.
use native.Mathlib.Omega.{arith}
use Rattle.cells.proofs.Along.{along_ready}
use Rattle.cells.proofs.Looking.{looking_start, looking_on, looking_full, looking_end, next_past}
use Rattle.cells.proofs.inner.cell.carve_cells.Goals as goal

pub loop-pos-init : goal.loop-pos-init
loop-pos-init c = looking_start _ _ _ _ _ c.requires.space.fits

pub carve_place-requires-clause-ready : goal.carve_place-requires-clause-ready
carve_place-requires-clause-ready c = along_ready _ _ _ _ _ _ _ c.loop-pos.invariant.along c.requires

pub returns-in_err-pos : goal.returns-in_err-pos
returns-in_err-pos c =
    rw c.from_residual.ensures (looking_full _ _ _ _ _ _ _ c.loop-pos.invariant c.loop-pos-test.true _ c.in_err-pos.ensures.rows)

pub loop-pos-smaller : goal.loop-pos-smaller
loop-pos-smaller c =
    omega (arith, next_past c.args.payload.now c.args.hints.now c.loop-pos.pos, c.in_ok-pos.ensures.next, c.loop-pos-test.true)

pub loop-pos-preserved : goal.loop-pos-preserved
loop-pos-preserved c =
    looking_on _ _ _ _ _ _ _ c.loop-pos.invariant c.loop-pos-test.true _ _ c.in_ok-pos.ensures.next c.in_ok-pos.ensures.rows

pub returns : goal.returns
returns c = looking_end _ _ _ _ _ _ _ c.loop-pos.invariant c.loop-pos-test.false
