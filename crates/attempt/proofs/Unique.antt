-- A contract fixes what a call leaves: any two outcomes that it allows for the same arguments are equal. `Post` is the function's own postcondition.
-- Assumes nothing.
use mathlib.Core.Path.{sym, ◌∙◌}
use Rattle.record.proofs.Unique.{Fixes}
use Rattle.attempt.proofs.schema_sig.is_compatible.Reads as is-compatible

pub is_compatible_fixed : Fixes is-compatible.Post
is_compatible_fixed k a x y s t p q = p.0 ∙ sym q.0
