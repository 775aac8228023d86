-- `phs_column_hints` meets its contract: number, word and list are those of the statement, read by the format.
-- Assumes nothing.
use Rattle.phsarodil.proofs.Returning.{list_returned}
use Rattle.phsarodil.proofs.lists.phs_column_hints.Goals as goal

pub returns : goal.returns
returns c = list_returned _ _ _ _ c.column_hints-hinted.ensures c.number.ensures c.written.ensures
