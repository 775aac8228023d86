-- `phs_collect_leaf_pages` meets its contract: number, word and lists are those of the walk.
-- Assumes nothing.
use Rattle.phsarodil.proofs.Returning.{leaves_returned}
use Rattle.phsarodil.proofs.pages.phs_collect_leaf_pages.Goals as goal

pub returns : goal.returns
returns c = leaves_returned _ _ _ _ c.collect_leaf_pages-walked.ensures c.number.ensures c.written.ensures
