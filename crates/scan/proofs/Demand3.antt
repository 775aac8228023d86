-- Demand 3, of the public call. The sheet and the count that it leaves are those of the scan rule. Two regions of equal length, with the same
-- hints, base, start and room, that agree at every header place of the first give the same sheet and the same count, whatever the lists held and
-- however long they are. The count is the number of header places of the attempts that the scan finished with.
-- Assumes nothing.
use Rattle.std.specs.Prelude.{Ok}
use mathlib.Core.Path.{◌≡◌, sym, ◌∙◌}
use contract.Lifetimes.{Lfts}
use denote.Triple.Clauses.{AtExit}
use borrow.Fn.Kinds.{Dens, res_t, ended_of}
use lib.ListN.{length}
use Rattle.scan.specs.Scan.{number_of, written_of, place_of, read_of}
use Rattle.scan.specs.Sheet.{Sheet, sheet_of, Asked, asked, asked_checked, asked_sheet, asked_count, Alike, Counts}
use Rattle.scan.proofs.Leaving.{sheet_left, count_left}
use Rattle.scan.proofs.Laws.{count_passed}
use Rattle.scan.proofs.SameRun.{same_sheet}
use Rattle.scan.proofs.schema_sig.scan_region.Kinds as kinds
use Rattle.scan.proofs.schema_sig.scan_region.Reads as scan-region

module _ (k : Lfts 4) where
  -- what a call is asked, and the sheet that it leaves
  abbrev pub question : Dens k kinds.ps → Asked
  question a = asked a.0.now a.1.0.now a.1.1.0 a.1.1.1.0 a.1.1.1.1.0.now a.1.1.1.1.1.0.now

  abbrev pub sheet : Dens k kinds.ps → (res_t kinds.r k).Denot → AtExit (ended_of 4 kinds.ps kinds.r) k → Sheet
  sheet a x s = sheet_of (length a.1.0.now) (number_of x) (written_of x) (place_of x) s.1.1.1.1.0.now s.1.1.1.1.1.0.now

  pub sheet_is : (a : Dens k kinds.ps) (x : (res_t kinds.r k).Denot) (s : AtExit (ended_of 4 kinds.ps kinds.r) k) → scan-region.Post k a x s
      → (sheet a x s ≡ asked_sheet (question a)) × (read_of x ≡ asked_count (question a))
  sheet_is a x s p =
      let rows = a.1.1.1.1.0.now in
      let cols = a.1.1.1.1.1.0.now in (
        rw (p.number, p.written, p.place, p.rows, p.entries) (sheet_left a.0.now a.1.0.now a.1.1.0 a.1.1.1.0 rows cols),
        p.count ∙ count_left a.0.now a.1.0.now a.1.1.0 a.1.1.1.0 rows cols,
      )

  pub gives_away : (a b : Dens k kinds.ps) → Alike (question a) (question b) → (x y : (res_t kinds.r k).Denot) (s t : AtExit (ended_of 4 kinds.ps kinds.r) k)
      → scan-region.Post k a x s → scan-region.Post k b y t → (sheet a x s ≡ sheet b y t) × (read_of x ≡ read_of y)
  gives_away a b e x y s t p q =
      let first = sheet_is a x s p in
      let second = sheet_is b y t q in
      let same = same_sheet (question a) (question b) e in
      (first.0 ∙ same.0 ∙ sym second.0, first.1 ∙ same.1 ∙ sym second.1)

  pub counts_places : (a : Dens k kinds.ps) (x : (res_t kinds.r k).Denot) (s : AtExit (ended_of 4 kinds.ps kinds.r) k) → scan-region.Post k a x s
      → asked_checked (question a) ≡ (Ok tt) → Counts (question a) (read_of x)
  counts_places a x s p e = count_passed (question a) (read_of x) (sheet_is a x s p).1 e
