-- A contract fixes what a call leaves: any two outcomes that it allows for the same arguments are equal. `Post` is the function's own postcondition.
-- Assumes nothing.
use Rattle.modes.proofs.carver.carve_freeblock.Reads as carve-freeblock
use Rattle.record.proofs.Unique.{FixesSeen}
use Rattle.sheet.proofs.Filling.{rows_fixed}
use Rattle.sheet.specs.Hits.{row_outcome}

-- the answer, and the rows and column entries at exit
pub carve_freeblock_fixed : FixesSeen carve-freeblock.Post (λ k r s. row_outcome r s.1.1.1.0.now s.1.1.1.1.0.now)
carve_freeblock_fixed k a x y s t p q = rows_fixed _ _ _ p q
