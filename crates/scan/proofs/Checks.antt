-- What has passed the checks of a scan.
-- Assumes nothing.
use Rattle.std.specs.Prelude.{Ok}
use Prim.Native.Nat.{ℕ}
use mathlib.Core.Path.{◌≡◌}
use mathlib.Core.List.{List}
use lib.ListN.{length}
use Rattle.scan.specs.Inner.{Fit}
use Rattle.scan.specs.Scan.{scan_checked}
use Rattle.sheet.proofs.Laws.{slice_fits}

pub passed : (s hints : List ℕ) (base : ℕ) → scan_checked s hints base ≡ (Ok tt) → Fit s hints base
passed s hints base e = let f = slice_fits (length s) hints base e in record { small = f.small; some = f.some; few = f.few; near = f.near }
