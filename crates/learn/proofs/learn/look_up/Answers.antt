-- `learn::learn::look_up` meets its contract: the counter says it.
-- Assumes nothing.
use mathlib.Core.Path.{◌∙◌}
use native.Mathlib.Omega.{arith}
use borrow.Author.Rules.{rules}
use Rattle.learn.proofs.Counting.{count_is}
use Rattle.learn.proofs.learn.look_up.Goals as goal

pub overflow_cast-result : goal.overflow_cast-result
overflow_cast-result c = omega (arith, c.type_inv.table c.args.kind)

pub returns-then-kind-table : goal.returns-then-kind-table
returns-then-kind-table c = c.requires _ (search rules)

pub returns-else-kind-table : goal.returns-else-kind-table
returns-else-kind-table c = c.count_of.ensures ∙ count_is _ _
