-- A contract fixes its answer: any two results that it allows for the same arguments are equal. `Post` is the function's own postcondition.
-- Assumes nothing.
use mathlib.Core.Path.{sym, ◌∙◌}
use Rattle.record.proofs.Unique.{Fixes, FixesSeen}
use Rattle.column.specs.Inner.{given_hints}
use Rattle.column.proofs.declared.sql_type_to_hint.Reads as sql-type-to-hint
use Rattle.column.proofs.piece.piece_hint.Reads as piece-hint

pub sql_type_to_hint_fixed : Fixes sql-type-to-hint.Post
sql_type_to_hint_fixed k a x y s t p q = p ∙ sym q

-- of what a piece gives: its hints
pub piece_hint_fixed : FixesSeen piece-hint.Post (λ k r s. given_hints r)
piece_hint_fixed k a x y s t p q = p ∙ sym q
