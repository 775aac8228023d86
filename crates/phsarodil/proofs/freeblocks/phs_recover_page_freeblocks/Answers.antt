-- `phs_recover_page_freeblocks` meets its contract: number, word and lists are those of the page.
-- Assumes nothing.
use Rattle.phsarodil.proofs.Returning.{rows_returned}
use Rattle.phsarodil.proofs.freeblocks.phs_recover_page_freeblocks.Goals as goal

pub returns : goal.returns
returns c = rows_returned _ _ _ _ c.recover_page_freeblocks-filled.ensures c.number.ensures c.written.ensures
