-- The bound on the attempts never cuts them short: any bound from the region's length on gives the same rows.
-- Assumes nothing.
use Prim.Native.Nat.{ℕ, zero, suc, ◌+◌, ◌≤◌}
use mathlib.Core.Path.{◌≡◌, refl, sym, ap, ◌∙◌}
use mathlib.Core.List.{List, ◌∷◌}
use native.Mathlib.Omega.{arith}
use lib.ListN.{length}
use Rattle.modes.specs.Found.{Found, Tried, miss, hit, end_of}
use Rattle.record.proofs.Numbers.{by_order}
use Rattle.unalloc.specs.Learned.{attempt_at, rows_from, rows_found}
use Rattle.unalloc.proofs.Running.{rows_hit, rows_miss, rows_end, row_ends}

module _ (s ls : List ℕ) where
  any_fuel : (f g o : ℕ) → length s ≤ o + f → length s ≤ o + g → rows_from f s ls o ≡ rows_from g s ls o
  any_fuel zero g o h k = rows_end s ls o 0 (omega arith) ∙ sym (rows_end s ls o g (omega arith))
  any_fuel (suc f) zero o h k = rows_end s ls o (suc f) (omega arith) ∙ sym (rows_end s ls o 0 (omega arith))
  any_fuel (suc f) (suc g) o h k =
      by_order (length s) (o + (1 + length ls))
      (λ past. rows_end s ls o (suc f) past ∙ sym (rows_end s ls o (suc g) past))
      (λ more. go more (attempt_at s ls o) refl (λ o' h' k'. any_fuel f g o' h' k'))
    where
      go : o + (1 + length ls) ≤ length s → (t : Tried) → attempt_at s ls o ≡ t
          → ((o' : ℕ) → length s ≤ o' + f → length s ≤ o' + g → rows_from f s ls o' ≡ rows_from g s ls o')
          → rows_from (suc f) s ls o ≡ rows_from (suc g) s ls o
      go more miss e rest = rows_miss s ls o f more e ∙ rest (o + 1) (omega arith) (omega arith) ∙ sym (rows_miss s ls o g more e)
      go more (hit x) e rest =
          let m = row_ends s ls o x e in
          rows_hit s ls o f x more e
          ∙ ap (λ (xs : List Found). x ∷ xs) (rest (end_of (length s) x) (omega (arith, m.0)) (omega (arith, m.0)))
          ∙ sym (rows_hit s ls o g x more e)

  -- THE LAW
  pub whole_found : (g : ℕ) → length s ≤ g → rows_from g s ls 0 ≡ rows_found s ls
  unfolding rows_found
  whole_found g h = any_fuel g (length s) 0 (omega arith) (omega arith)
