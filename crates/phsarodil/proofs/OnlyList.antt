-- The list is the only one (rule 4.17), of `phs_scan_region`: a call from 0 that returns 0 leaves the one list of its region, and one that no check
-- refuses as many rows of it as there is room for.
-- Assumes nothing.
use Rattle.std.specs.Prelude.{Ok}
use mathlib.Core.Path.{◌≡◌}
use contract.Lifetimes.{Lfts}
use denote.Triple.Clauses.{AtExit}
use borrow.Fn.Kinds.{Dens, res_t, ended_of}
use Rattle.phsarodil.proofs.Demand3.{question, sheet, sheet_is}
use Rattle.phsarodil.proofs.rows.phs_scan_region.Kinds as kinds
use Rattle.phsarodil.proofs.rows.phs_scan_region.Reads as phs-scan-region
use Rattle.scan.specs.Sheet.{asked_checked}
use Rattle.scanlaws.proofs.Leaving.{leaves_first, leaves_all}
use Rattle.scanlaws.specs.Listed.{LeavesFirst, LeavesAll}

module _ (k : Lfts 5) (a : Dens k kinds.ps) (x : (res_t kinds.r k).Denot) (s : AtExit (ended_of 5 kinds.ps kinds.r) k) (first : (question k a).start ≡ 0) where
  -- THE LAWS
  pub call_leaves_all : x ≡ 0 → phs-scan-region.Post k a x s → LeavesAll (question k a) (sheet k a x s)
  call_leaves_all z p = leaves_all (question k a) first (sheet_is k a x s p).0 z

  pub call_leaves_first : asked_checked (question k a) ≡ (Ok tt) → phs-scan-region.Post k a x s → LeavesFirst (question k a) (sheet k a x s)
  call_leaves_first c p = leaves_first (question k a) first (sheet_is k a x s p).0 c
