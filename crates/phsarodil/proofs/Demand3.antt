-- Demand 3 of `phs_scan_region`: what it returns and leaves is the sheet and the count of the scan rule, so two regions that agree at the header
-- places of the first give the same ones here, too.
-- Assumes nothing.
use Rattle.std.specs.Prelude.{Ok}
use Prim.Native.Nat.{ℕ}
use mathlib.Core.Path.{◌≡◌, sym, ap, ◌∙◌}
use contract.Lifetimes.{Lfts}
use denote.Triple.Clauses.{AtExit}
use borrow.Fn.Kinds.{Dens, res_t, ended_of}
use lib.ListN.{length, get_or}
use Rattle.scan.proofs.Laws.{count_passed}
use Rattle.scan.proofs.Leaving.{sheet_left, count_left}
use Rattle.scan.proofs.SameRun.{same_sheet}
use Rattle.scan.specs.Sheet.{Sheet, sheet_of, Asked, asked, asked_checked, asked_sheet, asked_count, Alike, Counts}
use Rattle.phsarodil.specs.Returns.{scanned_rows}
use Rattle.phsarodil.proofs.rows.phs_scan_region.Kinds as kinds
use Rattle.phsarodil.proofs.rows.phs_scan_region.Reads as phs-scan-region

module _ (k : Lfts 5) where
  abbrev pub question : Dens k kinds.ps → Asked
  question a = asked a.0.now a.1.0.now a.1.1.0 a.1.1.1.0 a.1.1.1.1.0.now a.1.1.1.1.1.0.now

  -- the word i of `out`
  abbrev pub word : AtExit (ended_of 5 kinds.ps kinds.r) k → ℕ → ℕ
  word s i = get_or s.1.1.1.1.1.1.0.now i 0

  abbrev pub sheet : Dens k kinds.ps → (res_t kinds.r k).Denot → AtExit (ended_of 5 kinds.ps kinds.r) k → Sheet
  sheet a x s = sheet_of (length a.1.0.now) x (word s 0) (word s 1) s.1.1.1.1.0.now s.1.1.1.1.1.0.now

  pub sheet_is : (a : Dens k kinds.ps) (x : (res_t kinds.r k).Denot) (s : AtExit (ended_of 5 kinds.ps kinds.r) k) → phs-scan-region.Post k a x s
      → (sheet a x s ≡ asked_sheet (question a)) × (word s 2 ≡ asked_count (question a))
  unfolding scanned_rows
  sheet_is a x s p =
      let rows = a.1.1.1.1.0.now in
      let cols = a.1.1.1.1.1.0.now in
      let out = ap (λ y. y.out) p in (
        rw (ap (λ y. y.number) p, out, ap (λ y. y.rows) p, ap (λ y. y.cols) p)
            (sheet_left a.0.now a.1.0.now a.1.1.0 a.1.1.1.0 rows cols),
        rw out (count_left a.0.now a.1.0.now a.1.1.0 a.1.1.1.0 rows cols),
      )

  pub gives_away : (a b : Dens k kinds.ps) → Alike (question a) (question b) → (x y : (res_t kinds.r k).Denot) (s t : AtExit (ended_of 5 kinds.ps kinds.r) k)
      → phs-scan-region.Post k a x s → phs-scan-region.Post k b y t → (sheet a x s ≡ sheet b y t) × (word s 2 ≡ word t 2)
  gives_away a b e x y s t p q =
      let first = sheet_is a x s p in
      let second = sheet_is b y t q in
      let same = same_sheet (question a) (question b) e in
      (first.0 ∙ same.0 ∙ sym second.0, first.1 ∙ same.1 ∙ sym second.1)

  pub counts_places : (a : Dens k kinds.ps) (x : (res_t kinds.r k).Denot) (s : AtExit (ended_of 5 kinds.ps kinds.r) k) → phs-scan-region.Post k a x s
      → asked_checked (question a) ≡ (Ok tt) → Counts (question a) (word s 2)
  counts_places a x s p e = count_passed (question a) (word s 2) (sheet_is a x s p).1 e
