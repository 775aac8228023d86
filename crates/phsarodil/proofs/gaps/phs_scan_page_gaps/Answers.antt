-- `phs_scan_page_gaps` meets its contract: a code that names no way changes nothing, and otherwise number, word and lists are those of the tables.
-- Assumes nothing.
use Rattle.phsarodil.proofs.Returning.{tables_returned}
use Rattle.phsarodil.proofs.gaps.phs_scan_page_gaps.Goals as goal

pub returns-in_default : goal.returns-in_default
returns-in_default c =
    rw (rw c.in_default.is at c.try_from.ensures)
    (rw (c.number.ensures, c.unnamed.ensures, c.counts_fit.ensures))

pub returns : goal.returns
returns c =
    rw (rw c.in-Ok.is at c.try_from.ensures)
    (tables_returned _ _ _ _ c.scan_page_gaps-walked.ensures c.number-2.ensures c.written.ensures)
