-- `phs_scan_region` meets its contract: number, words and lists are those of the scan.
-- Assumes nothing.
use mathlib.Core.Path.{refl}
use Rattle.phsarodil.proofs.Returning.{scan_returned}
use Rattle.phsarodil.proofs.rows.phs_scan_region.Goals as goal

pub returns-in-Ok : goal.returns-in-Ok
returns-in-Ok c =
    let x = rw c.in-Ok.is at c.scan_region.ensures in
    scan_returned _ _ _ _ _ _ x c.number.ensures c.written.ensures refl refl

pub returns-in-Err : goal.returns-in-Err
returns-in-Err c =
    let x = rw c.in-Err.is at c.scan_region.ensures in
    scan_returned _ _ _ _ _ _ x c.number-in-Err.ensures refl refl refl
