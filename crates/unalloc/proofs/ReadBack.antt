-- Values read back, of the public call: the entries that it writes lie in the region, and read over it, one after the other, as the values of the
-- rows' types, each at its place, or as NULL where a column is not used.
-- Assumes nothing.
use Prim.Native.Nat.{ℕ, zero, suc, ◌+◌, ◌*◌, ◌≤◌}
use mathlib.Core.Path.{◌≡◌, refl}
use mathlib.Core.List.{List}
use contract.Lifetimes.{Lfts}
use denote.Triple.Clauses.{AtExit}
use borrow.Fn.Kinds.{Dens, res_t, ended_of}
use lib.ListN.{length}
use Rattle.modes.proofs.Entries.{AllFew, found_fit}
use Rattle.modes.specs.Found.{Tried, miss, hit, end_of}
use Rattle.modes.specs.Values.{rows_values}
use Rattle.record.proofs.Numbers.{by_order}
use Rattle.sheet.proofs.ReadBack.{ReadBack, rows_read}
use Rattle.sheet.specs.Filled.{filled_written}
use Rattle.unalloc.specs.Learned.{attempt_at, rows_from, rows_found}
use Rattle.unalloc.specs.Values.{learned_values}
use Rattle.unalloc.proofs.Attempting.{attempt_found}
use Rattle.unalloc.proofs.Running.{rows_hit, rows_miss, rows_end}
use Rattle.unalloc.proofs.unalloc.carve_unallocated.Kinds as kinds
use Rattle.unalloc.proofs.unalloc.carve_unallocated.Reads as carve-unallocated

-- no row has more columns than were learned
module _ (s ls : List ℕ) where
  few_from : (f o : ℕ) → AllFew (length ls) (rows_from f s ls o)
  unfolding rows_from
  few_from zero o = tt
  few_from (suc f) o =
      by_order (length s) (o + (1 + length ls)) (λ past. rw (rows_end s ls o (suc f) past) tt)
      (λ more. go more (attempt_at s ls o) refl (λ o'. few_from f o'))
    where
      go : o + (1 + length ls) ≤ length s → (t : Tried) → attempt_at s ls o ≡ t → ((o' : ℕ) → AllFew (length ls) (rows_from f s ls o')) → AllFew (length ls) (rows_from (suc f) s ls o)
      go more miss e rest = rw (rows_miss s ls o f more e) (rest (o + 1))
      go more (hit x) e rest = rw (rows_hit s ls o f x more e) ((attempt_found s ls o x e).few, rest (end_of (length s) x))

  few_found : AllFew (length ls) (rows_found s ls)
  unfolding rows_found
  few_found = few_from (length s) 0

-- THE LAW: of `carve_unallocated`
pub carve_reads_back : (k : Lfts 4) (a : Dens k kinds.ps) (x : (res_t kinds.r k).Denot) (s : AtExit (ended_of 4 kinds.ps kinds.r) k) → carve-unallocated.Post k a x s
    → ReadBack a.0.now (filled_written x * length a.1.0.now) s.1.1.1.1.0.now
    (learned_values a.0.now a.1.0.now a.1.1.0 a.1.1.1.0.now a.1.1.1.1.0.now)
unfolding learned_values
carve_reads_back k a x s p =
    let region = a.0.now in
    let types = a.1.0.now in
    rows_read region _ (rows_values region (rows_found region types)) _ p (λ e. found_fit region a.1.1.0 (length types) (rows_found region types) (few_found region types))
