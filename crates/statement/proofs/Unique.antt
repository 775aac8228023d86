-- A contract fixes what a call leaves: any two outcomes that it allows for the same arguments are equal. `Post` is the function's own postcondition.
-- Assumes nothing.
use Rattle.record.proofs.Unique.{FixesSeen}
use Rattle.sheet.proofs.Filling.{list_fixed}
use Rattle.sheet.specs.Filled.{list_outcome}
use Rattle.statement.proofs.statement.from_create_sql.Reads as from-create-sql

pub from_create_sql_fixed : FixesSeen from-create-sql.Post (λ k r s. list_outcome r s.1.0.now)
from_create_sql_fixed k a x y s t p q = list_fixed _ _ _ p q
