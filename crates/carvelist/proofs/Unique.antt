-- A contract fixes what a call leaves: any two outcomes that it allows for the same arguments are equal. `Post` is the function's own postcondition.
-- Assumes nothing.
use mathlib.Core.Path.{sym, ◌∙◌}
use Rattle.record.proofs.Unique.{FixesSeen}
use Rattle.carvelist.proofs.say_parts.Reads as say-parts

-- the totals; whether all was written is no matter of the arguments
pub say_parts_total : FixesSeen say-parts.Post (λ k r s. r.total)
say_parts_total k a x y s t p q = p ∙ sym q
