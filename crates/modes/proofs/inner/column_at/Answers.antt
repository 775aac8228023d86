-- `modes::inner::column_at` meets its contract: each way out is a case of the body's length.
-- Assumes nothing.
use mathlib.Core.Path.{sym, ◌∙◌}
use native.Mathlib.Omega.{arith}
use Rattle.modes.proofs.Bodies.{column_body, column_out, column_none}
use Rattle.modes.proofs.inner.column_at.Goals as goal

pub returns-in-Some-clause-value : goal.returns-in-Some-clause-value
returns-in-Some-clause-value c = sym (column_body _ _ _ _ (sym c.body_length.ensures ∙ c.in-Some.is) (omega (arith, c.if-n-len.true, c.requires)))

pub returns-in_default-clause-value : goal.returns-in_default-clause-value
returns-in_default-clause-value c = sym (column_out _ _ _ _ (sym c.body_length.ensures ∙ c.in-Some.is) (omega (arith, c.if-n-len.false)))

pub returns-in_default-2-clause-value : goal.returns-in_default-2-clause-value
returns-in_default-2-clause-value c = sym (column_none _ _ _ (sym c.body_length.ensures ∙ c.in_default.is))
