-- `phs_recover_freeblocks` meets its contract: number, word and lists are those of the tables.
-- Assumes nothing.
use Rattle.phsarodil.proofs.Returning.{tables_returned}
use Rattle.phsarodil.proofs.freeblocks.phs_recover_freeblocks.Goals as goal

pub returns : goal.returns
returns c =
    tables_returned _ _ _ _ c.recover_freeblocks-walked.ensures c.number.ensures c.written.ensures
