-- Values read back, of the public call: the entries that it writes lie in the slice, and read over it, one after the other, as the values of the
-- rows' types, each at the place that its mode names, or as NULL.
-- Assumes nothing.
use Prim.Native.Nat.{ℕ, zero, suc, ◌+◌, ◌*◌, ◌≤◌}
use mathlib.Core.Path.{◌≡◌, refl}
use mathlib.Core.List.{List, [], ◌∷◌, ◌++◌}
use native.Mathlib.Omega.{arith}
use contract.Lifetimes.{Lfts}
use denote.Triple.Clauses.{AtExit}
use borrow.Fn.Kinds.{Dens, res_t, ended_of}
use lib.ListN.{length}
use Rattle.modes.specs.Found.{Found, Tried, miss, hit, end_of}
use Rattle.modes.specs.Modes.{columns_only, listed, or_else, columns_only_in, first_col_missing_in, normal_at, normal_from, normal_found, headless_found, modes_found}
use Rattle.modes.specs.Values.{rows_values, carve_values}
use Rattle.modes.proofs.Entries.{AllFew, found_fit}
use Rattle.modes.proofs.Running.{normal_on, normal_stop, normal_end}
use Rattle.modes.proofs.Trying.{normal_found_lem, headless_few, missing_found}
use Rattle.modes.proofs.carver.carve_freeblock.Kinds as kinds
use Rattle.modes.proofs.carver.carve_freeblock.Reads as carve-freeblock
use Rattle.record.proofs.Numbers.{by_order}
use Rattle.sheet.proofs.ReadBack.{ReadBack, rows_read}
use Rattle.sheet.specs.Filled.{filled_written}

-- ---- no row has more columns than there may be
few_both : (columns : ℕ) (a b : List Found) → AllFew columns a → AllFew columns b → AllFew columns (a ++ b)
few_both columns [] b p q = q
few_both columns (x ∷ a) b p q = (p.0, few_both columns a b p.1 q)

few_listed : (columns : ℕ) (t : Tried) → ((x : Found) → t ≡ hit x → x.style.lost + length x.types ≤ columns) → AllFew columns (listed t)
few_listed columns miss f = tt
few_listed columns (hit x) f = (f x refl, tt)

module _ (s : List ℕ) (columns : ℕ) where
  few_normal : (f o : ℕ) → AllFew columns (normal_from f s columns o)
  unfolding normal_from
  few_normal zero o = tt
  few_normal (suc f) o =
      by_order (length s) (o + 3) (λ past. rw (normal_end s columns o (suc f) past) tt)
      (λ more. go more (normal_at s columns o) refl (λ o'. few_normal f o'))
    where
      go : o + 3 ≤ length s → (t : Tried) → normal_at s columns o ≡ t → ((o' : ℕ) → AllFew columns (normal_from f s columns o')) → AllFew columns (normal_from (suc f) s columns o)
      go more miss e rest = rw (normal_stop s columns o (suc f) more e) tt
      go more (hit x) e rest = rw (normal_on s columns o f x more e) ((normal_found_lem s columns o x e).few, rest (end_of (length s) x))

  few_found : AllFew columns (modes_found s columns)
  unfolding modes_found normal_found headless_found
  few_found = go (normal_from (length s) s columns 0) (few_normal (length s) 0)
    where
      headless : AllFew columns (listed (columns_only_in s columns) ++ listed (first_col_missing_in s columns))
      headless =
          few_both columns (listed (columns_only_in s columns)) (listed (first_col_missing_in s columns))
          (few_listed columns (columns_only_in s columns) (λ x e. omega (arith, headless_few columns_only s 0 columns x (omega arith) e)))
          (few_listed columns (first_col_missing_in s columns) (missing_found s columns))

      go : (xs : List Found) → AllFew columns xs → AllFew columns (or_else xs (listed (columns_only_in s columns) ++ listed (first_col_missing_in s columns)))
      go [] a = headless
      go (x ∷ xs) a = a

-- THE LAW: of `carve_freeblock`
pub carve_reads_back : (k : Lfts 3) (a : Dens k kinds.ps) (x : (res_t kinds.r k).Denot) (s : AtExit (ended_of 3 kinds.ps kinds.r) k) → carve-freeblock.Post k a x s
    → ReadBack a.0.now (filled_written x * a.1.1.0) s.1.1.1.1.0.now (carve_values a.0.now a.1.0 a.1.1.0 a.1.1.1.0.now a.1.1.1.1.0.now)
unfolding carve_values
carve_reads_back k a x s p =
    let bytes = a.0.now in
    let columns = a.1.1.0 in
    rows_read bytes _ (rows_values bytes (modes_found bytes columns)) _ p (λ e. found_fit bytes a.1.0 columns (modes_found bytes columns) (few_found bytes columns))
