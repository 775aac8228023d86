-- `phs_learn_signatures` meets its contract: number, word and list are those of the rows.
-- Assumes nothing.
use Rattle.phsarodil.proofs.Returning.{list_returned}
use Rattle.phsarodil.proofs.learned.phs_learn_signatures.Goals as goal

pub returns : goal.returns
returns c = list_returned _ _ _ _ c.learn_signatures-filled.ensures c.number.ensures c.written.ensures
