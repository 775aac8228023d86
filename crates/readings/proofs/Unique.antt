-- A contract fixes what a call leaves: any two outcomes that it allows for the same arguments are equal. `Post` is the function's own postcondition.
-- Assumes nothing.
use Rattle.record.proofs.Unique.{FixesSeen}
use Rattle.sheet.proofs.Filling.{list_fixed}
use Rattle.sheet.specs.Filled.{list_outcome}
use Rattle.readings.proofs.statement.column_hints.Reads as column-hints
use Rattle.readings.proofs.statement.read_statement.Reads as read-statement

pub column_hints_fixed : FixesSeen column-hints.Post (λ k r s. list_outcome r s.1.0.now)
column_hints_fixed k a x y s t p q = list_fixed _ _ _ p q

pub read_statement_fixed : FixesSeen read-statement.Post (λ k r s. list_outcome r s.1.1.0.now)
read_statement_fixed k a x y s t p q = list_fixed _ _ _ p q
