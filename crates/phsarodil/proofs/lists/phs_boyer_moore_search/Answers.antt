-- `phs_boyer_moore_search` meets its contract: number, word and list are those of the search.
-- Assumes nothing.
use Rattle.phsarodil.proofs.Returning.{list_returned}
use Rattle.phsarodil.proofs.lists.phs_boyer_moore_search.Goals as goal

pub returns : goal.returns
returns c = list_returned _ _ _ _ c.boyer_moore_search-searched.ensures c.number.ensures c.written.ensures
