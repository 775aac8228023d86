-- `phs_carve_unallocated` meets its contract: number, word and lists are those of the region.
-- Assumes nothing.
use Rattle.phsarodil.proofs.Returning.{rows_returned}
use Rattle.phsarodil.proofs.learned.phs_carve_unallocated.Goals as goal

pub returns : goal.returns
returns c = rows_returned _ _ _ _ c.carve_unallocated-filled.ensures c.number.ensures c.written.ensures
