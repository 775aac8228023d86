-- `phs_read_varint` meets its contract: each arm writes a clause of the definition.
-- Assumes nothing.
use mathlib.Core.Path.{refl, sym, ◌∙◌}
use Rattle.record.proofs.Numbers.{bool_word}
use Rattle.phsarodil.proofs.values.phs_read_varint.Goals as goal

pub returns-in-Some : goal.returns-in-Some
returns-in-Some c = record { number = refl; out = rw (sym c.read_varint.ensures ∙ c.in-Some.is, bool_word) }

pub returns-in-None : goal.returns-in-None
returns-in-None c = record { number = refl; out = rw (sym c.read_varint.ensures ∙ c.in-None.is) }
