-- `learn::learn::is_own_type` meets its contract.
-- Assumes nothing.
use native.Mathlib.Omega.{arith}
use Rattle.learn.proofs.Columns.{own_type}
use Rattle.learn.proofs.learn.is_own_type.Goals as goal

pub returns-then-e-ge12 : goal.returns-then-e-ge12
returns-then-e-ge12 c = own_type _ _ _ (omega arith) (omega arith) c.is_bad.ensures
