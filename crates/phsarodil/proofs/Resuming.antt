-- Resuming adds up (rule 4.16), of `phs_scan_region`: one call leaves the sheets of two one behind the other, the second from the place that
-- stands in the first one's `out`, and its count is theirs together, if the rooms add up.
-- Assumes nothing.
use Prim.Native.Nat.{◌+◌}
use mathlib.Core.Path.{◌≡◌}
use contract.Lifetimes.{Lfts}
use denote.Triple.Clauses.{AtExit}
use borrow.Fn.Kinds.{Dens, res_t, ended_of}
use Rattle.phsarodil.proofs.Demand3.{question, word, sheet, sheet_is}
use Rattle.phsarodil.proofs.rows.phs_scan_region.Kinds as kinds
use Rattle.phsarodil.proofs.rows.phs_scan_region.Reads as phs-scan-region
use Rattle.scanlaws.proofs.Asking.{as_left}
use Rattle.scanlaws.specs.Joined.{joined_sheet, InTwo}

module _ (k : Lfts 5) (a b c : Dens k kinds.ps) (x y z : (res_t kinds.r k).Denot) (s t u : AtExit (ended_of 5 kinds.ps kinds.r) k) where
  -- THE LAW
  pub calls_add_up : InTwo (question k a) (question k b) (question k c) (word k t 1)
      → phs-scan-region.Post k a x s → phs-scan-region.Post k b y t → phs-scan-region.Post k c z u
      → (sheet k a x s ≡ joined_sheet (sheet k b y t) (sheet k c z u)) × (word k s 2 ≡ word k t 2 + word k u 2)
  calls_add_up e p q r = as_left (question k a) (question k b) (question k c) (sheet_is k a x s p) (sheet_is k b y t q) (sheet_is k c z u r) e
