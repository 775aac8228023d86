-- `phs_parse_cells_from_freeblock` meets its contract: a code that names no way changes nothing, and otherwise number, word and lists are those of the payload slice.
-- Assumes nothing.
use Rattle.phsarodil.proofs.Returning.{rows_returned}
use Rattle.phsarodil.proofs.gaps.phs_parse_cells_from_freeblock.Goals as goal

pub returns-in_default : goal.returns-in_default
returns-in_default c =
    rw (rw c.in_default.is at c.try_from.ensures)
    (rw (c.number.ensures, c.unnamed.ensures, c.hint_count_fits.ensures))

pub returns : goal.returns
returns c =
    rw (rw c.in-Ok.is at c.try_from.ensures)
    (rows_returned _ _ _ _ c.parse_cells_from_freeblock-filled.ensures c.number-2.ensures c.written.ensures)
