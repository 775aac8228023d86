-- `phs_from_create_sql` meets its contract: number, word and list are those of the statement.
-- Assumes nothing.
use Rattle.phsarodil.proofs.Returning.{list_returned}
use Rattle.phsarodil.proofs.lists.phs_from_create_sql.Goals as goal

pub returns : goal.returns
returns c = list_returned _ _ _ _ c.from_create_sql-hinted.ensures c.number.ensures c.written.ensures
