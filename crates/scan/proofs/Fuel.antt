-- The bound on the attempts never cuts a scan short: any bound from the region's length on gives the same run.
-- Assumes nothing.
use Prim.Native.Nat.{ℕ, zero, suc, ◌+◌, ◌-◌, ◌≤◌, ◌<◌}
use mathlib.Core.Path.{◌≡◌, refl, sym, ap, ◌∙◌}
use mathlib.Core.List.{List}
use native.Mathlib.Omega.{arith}
use lib.ListN.{length}
use Rattle.attempt.proofs.Laws.{hit_takes}
use Rattle.attempt.specs.Attempt.{Tried, miss, hit, attempt_at}
use Rattle.record.proofs.Numbers.{by_order}
use Rattle.scan.proofs.Running.{scan_none, scan_missed, scan_found, scan_full, scan_end}
use Rattle.scan.specs.Scan.{Run, missed, found, scan_from}

module _ (s hints : List ℕ) (room : ℕ) where
  -- a bound that reaches the region's end from where the scan is
  pub any_fuel : (f g o n : ℕ) → length s ≤ o + f → length s ≤ o + g → scan_from f s hints room o n ≡ scan_from g s hints room o n
  any_fuel zero g o n h k = scan_none s hints room o n ∙ sym (scan_end g s hints room o n (omega arith))
  any_fuel (suc f) zero o n h k = scan_end (suc f) s hints room o n (omega arith) ∙ sym (scan_none s hints room o n)
  any_fuel (suc f) (suc g) o n h k =
      by_order o (length s - 2) (λ lt. go lt (attempt_at s hints o) refl (λ o' n' p q. any_fuel f g o' n' p q))
      (λ ge. scan_end (suc f) s hints room o n ge ∙ sym (scan_end (suc g) s hints room o n ge))
    where
      go : o < length s - 2 → (t : Tried) → attempt_at s hints o ≡ t
          → ((o' n' : ℕ) → length s ≤ o' + f → length s ≤ o' + g → scan_from f s hints room o' n' ≡ scan_from g s hints room o' n')
          → scan_from (suc f) s hints room o n ≡ scan_from (suc g) s hints room o n
      go lt miss e rest =
          scan_missed f s hints room o n lt e
          ∙ ap (λ (t : Run). missed o t) (rest (o + 1) n (omega arith) (omega arith))
          ∙ sym (scan_missed g s hints room o n lt e)
      go lt (hit x) e rest =
          let takes = (hit_takes s hints o x e).0 in
          by_order n room
          (λ in'.
          scan_found f s hints room o n lt x e in'
          ∙ ap (λ (t : Run). found o x t) (rest (o + x.consumed) (n + 1) (omega arith) (omega arith))
          ∙ sym (scan_found g s hints room o n lt x e in'))
          (λ out. scan_full f s hints room o n lt x e out ∙ sym (scan_full g s hints room o n lt x e out))

  -- THE LAW
  pub whole_scan : (g start : ℕ) → length s ≤ g → scan_from g s hints room start 0 ≡ scan_from (length s) s hints room start 0
  whole_scan g start h = any_fuel g (length s) start 0 (omega arith) (omega arith)
