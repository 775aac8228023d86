-- `phs_body_length` meets its contract: each arm writes a clause of the definition.
-- Assumes nothing.
use mathlib.Core.Path.{refl, sym, ◌∙◌}
use Rattle.phsarodil.proofs.values.phs_body_length.Goals as goal

pub returns-in-Some : goal.returns-in-Some
returns-in-Some c = record { number = refl; out = rw (sym c.body_length.ensures ∙ c.in-Some.is) }

pub returns-in-None : goal.returns-in-None
returns-in-None c = record { number = refl; out = rw (sym c.body_length.ensures ∙ c.in-None.is) }
