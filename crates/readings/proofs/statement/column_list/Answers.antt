-- `readings::statement::column_list` meets its contract: the first bracket and the last are told by what stands behind and before them.
-- Assumes nothing.
use mathlib.Core.Path.{◌≡◌}
use native.Mathlib.Omega.{arith}
use Rattle.readings.proofs.StatementLaws.{no_brackets, brackets}
use Rattle.readings.proofs.statement.column_list.Goals as goal

pub returns-in_err-last : goal.returns-in_err-last
returns-in_err-last c =
    let none : c.kept.result ≡ 0 = omega (arith, c.in_err-last.ensures) in
    rw c.from_residual.ensures (no_brackets _ _ _ c.behind_first-rest.ensures c.kept.ensures.part none)

pub returns : goal.returns
returns c =
    rw c.in_ok-last.ensures.1 (brackets _ _ _ c.behind_first-rest.ensures c.kept.ensures.part c.in_ok-last.ensures.0)
