-- `learn::learn::set_back` meets its contract: a type beyond the table moves nothing.
-- Assumes nothing.
use mathlib.Core.Path.{sym}
use native.Mathlib.Omega.{arith}
use lib.Seq.{set_out}
use Rattle.learn.proofs.learn.set_back.Goals as goal

pub returns-else-kind-table : goal.returns-else-kind-table
returns-else-kind-table c = sym (set_out _ _ _ (omega arith))
