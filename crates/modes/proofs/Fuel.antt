-- The bound on the rows of Normal never cuts them short: any bound from the slice's length on gives the same rows.
-- Assumes nothing.
use Prim.Native.Nat.{ℕ, zero, suc, ◌+◌, ◌≤◌}
use mathlib.Core.Path.{◌≡◌, refl, sym, ap, ◌∙◌}
use mathlib.Core.List.{List, ◌∷◌}
use native.Mathlib.Omega.{arith}
use lib.ListN.{length}
use Rattle.modes.specs.Found.{Found, Tried, miss, hit, end_of}
use Rattle.modes.specs.Modes.{normal_at, normal_from, normal_found}
use Rattle.modes.proofs.Running.{normal_on, normal_stop, normal_end, normal_ends}
use Rattle.record.proofs.Numbers.{by_order}

module _ (s : List ℕ) (columns : ℕ) where
  any_fuel : (f g o : ℕ) → length s ≤ o + f → length s ≤ o + g → normal_from f s columns o ≡ normal_from g s columns o
  any_fuel zero g o h k = normal_end s columns o 0 (omega arith) ∙ sym (normal_end s columns o g (omega arith))
  any_fuel (suc f) zero o h k = normal_end s columns o (suc f) (omega arith) ∙ sym (normal_end s columns o 0 (omega arith))
  any_fuel (suc f) (suc g) o h k =
      by_order (length s) (o + 3)
      (λ past. normal_end s columns o (suc f) past ∙ sym (normal_end s columns o (suc g) past))
      (λ more. go more (normal_at s columns o) refl (λ o' h' k'. any_fuel f g o' h' k'))
    where
      go : o + 3 ≤ length s → (t : Tried) → normal_at s columns o ≡ t
          → ((o' : ℕ) → length s ≤ o' + f → length s ≤ o' + g → normal_from f s columns o' ≡ normal_from g s columns o')
          → normal_from (suc f) s columns o ≡ normal_from (suc g) s columns o
      go more miss e rest = normal_stop s columns o (suc f) more e ∙ sym (normal_stop s columns o (suc g) more e)
      go more (hit x) e rest =
          let m = normal_ends s columns o x e in
          normal_on s columns o f x more e
          ∙ ap (λ (xs : List Found). x ∷ xs) (rest (end_of (length s) x) (omega (arith, m.0)) (omega (arith, m.0)))
          ∙ sym (normal_on s columns o g x more e)

  -- THE LAW
  pub whole_found : (g : ℕ) → length s ≤ g → normal_from g s columns 0 ≡ normal_found s columns
  unfolding normal_found
  whole_found g h = any_fuel g (length s) 0 (omega arith) (omega arith)
