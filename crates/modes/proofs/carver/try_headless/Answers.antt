-- `modes::carver::try_headless` meets its contract: each way out is a law of `proofs/Trying.antt`.
-- Assumes nothing.
use native.Mathlib.Omega.{arith}
use Rattle.modes.proofs.Trying.{headless_cut, headless_none, headless_hit}
use Rattle.modes.proofs.carver.try_headless.Goals as goal

pub returns-in_err-types : goal.returns-in_err-types
returns-in_err-types c = rw c.from_residual.ensures (headless_cut _ _ _ _ (rw c.in_err-types.was at c.read_types.ensures))

pub returns-then-types-eq0 : goal.returns-then-types-eq0
returns-then-types-eq0 c = headless_none _ _ _ _ _ _ _ (rw c.in_ok-types.was at c.read_types.ensures) c.if-types-eq0.true

pub returns : goal.returns
returns c = headless_hit _ _ _ _ _ _ _ (rw c.in_ok-types.was at c.read_types.ensures) c.requires.0 c.requires.2 (omega (arith, c.if-types-eq0.false))
