-- `unalloc::unalloc::try_at` meets its contract: the first byte decides, or the attempt does.
-- Assumes nothing.
use mathlib.Core.Path.{refl}
use native.Mathlib.Omega.{arith}
use Rattle.unalloc.proofs.Attempting.{begins_empty, begins_large}
use Rattle.unalloc.proofs.unalloc.try_at.Goals as goal

pub returns-in_default : goal.returns-in_default
returns-in_default c = begins_empty _ _ _ _ c.requires.o_in_bounds.0 refl (omega arith)

pub returns-in_default-2 : goal.returns-in_default-2
returns-in_default-2 c = begins_large _ _ _ _ c.requires.o_in_bounds.0 refl (omega arith) (omega (arith, c.type_inv.region c.args.o))
