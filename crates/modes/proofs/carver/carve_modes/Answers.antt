-- `modes::carver::carve_modes` meets its contract: the other modes come where the first found none.
-- Assumes nothing.
use mathlib.Core.Path.{refl}
use native.Mathlib.Omega.{arith}
use Rattle.modes.proofs.Running.{modes_over, modes_some, modes_none}
use Rattle.modes.proofs.carver.carve_modes.Goals as goal

pub returns-in_err-carve_normal : goal.returns-in_err-carve_normal
returns-in_err-carve_normal c = rw c.from_residual.ensures (modes_over _ _ _ _ _ c.requires.ready c.requires.empty c.in_err-carve_normal.ensures)

pub returns-then-sheet-gt0 : goal.returns-then-sheet-gt0
returns-then-sheet-gt0 c = modes_some _ _ _ _ _ c.requires.ready c.requires.empty c.in_ok-carve_normal.ensures c.if-sheet-gt0.true

pub returns : goal.returns
returns c =
    modes_none _ _ _ _ _ c.requires.ready c.requires.empty c.in_ok-carve_normal.ensures _ _ refl (omega (arith, c.if-sheet-gt0.false)) c.carve_headless.ensures
