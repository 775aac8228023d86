-- `phs_carve_freeblock` meets its contract: number, word and lists are those of the block.
-- Assumes nothing.
use Rattle.phsarodil.proofs.Returning.{rows_returned}
use Rattle.phsarodil.proofs.block.phs_carve_freeblock.Goals as goal

pub returns : goal.returns
returns c = rows_returned _ _ _ _ c.carve_freeblock-filled.ensures c.number.ensures c.written.ensures
