-- `phs_recover_slice_freeblocks` meets its contract: number, word and lists are those of the page slice.
-- Assumes nothing.
use Rattle.phsarodil.proofs.Returning.{rows_returned}
use Rattle.phsarodil.proofs.freeblocks.phs_recover_slice_freeblocks.Goals as goal

pub returns : goal.returns
returns c = rows_returned _ _ _ _ c.recover_slice_freeblocks-filled.ensures c.number.ensures c.written.ensures
