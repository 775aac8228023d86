-- The laws of the public call `scan_region`, by its postcondition, whatever the lists held and however long they are.
-- Assumes nothing.
use Rattle.std.specs.Prelude.{Ok}
use Prim.Native.Nat.{◌+◌}
use mathlib.Core.Path.{◌≡◌}
use contract.Lifetimes.{Lfts}
use denote.Triple.Clauses.{AtExit}
use borrow.Fn.Kinds.{Dens, res_t, ended_of}
use Rattle.scan.proofs.Demand3.{question, sheet, sheet_is}
use Rattle.scan.proofs.schema_sig.scan_region.Kinds as kinds
use Rattle.scan.proofs.schema_sig.scan_region.Reads as scan-region
use Rattle.scan.specs.Scan.{number_of, place_of, read_of}
use Rattle.scan.specs.Sheet.{asked_checked}
use Rattle.scanlaws.proofs.Asking.{as_left}
use Rattle.scanlaws.proofs.Leaving.{leaves_first, leaves_all}
use Rattle.scanlaws.specs.Joined.{joined_sheet, InTwo}
use Rattle.scanlaws.specs.Listed.{LeavesFirst, LeavesAll}

module _ (k : Lfts 4) (a b c : Dens k kinds.ps) (x y z : (res_t kinds.r k).Denot) (s t u : AtExit (ended_of 4 kinds.ps kinds.r) k) where
  -- THE LAW (rule 4.16): one call leaves the sheets of two one behind the other, the second from the place that the first returned, and counts
  -- as they do together, if the rooms add up; also if a check refuses
  pub calls_add_up : InTwo (question k a) (question k b) (question k c) (place_of y)
      → scan-region.Post k a x s → scan-region.Post k b y t → scan-region.Post k c z u
      → (sheet k a x s ≡ joined_sheet (sheet k b y t) (sheet k c z u)) × (read_of x ≡ read_of y + read_of z)
  calls_add_up e p q r = as_left (question k a) (question k b) (question k c) (sheet_is k a x s p) (sheet_is k b y t q) (sheet_is k c z u r) e

module _ (k : Lfts 4) (a : Dens k kinds.ps) (x : (res_t kinds.r k).Denot) (s : AtExit (ended_of 4 kinds.ps kinds.r) k) (first : (question k a).start ≡ 0) where
  -- THE LAW (rule 4.17): a call from 0 that is done leaves the one list of its region
  pub call_leaves_all : number_of x ≡ 0 → scan-region.Post k a x s → LeavesAll (question k a) (sheet k a x s)
  call_leaves_all z p = leaves_all (question k a) first (sheet_is k a x s p).0 z

  -- and one that no check refuses as many rows of it as there is room for
  pub call_leaves_first : asked_checked (question k a) ≡ (Ok tt) → scan-region.Post k a x s → LeavesFirst (question k a) (sheet k a x s)
  call_leaves_first c p = leaves_first (question k a) first (sheet_is k a x s p).0 c
