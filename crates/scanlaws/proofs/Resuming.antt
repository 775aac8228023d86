-- Resuming adds up (rule 4.16): a scan with room a, and one with room b from the place that it returned, are one scan with room a + b.
-- Assumes nothing.
use Prim.Native.Nat.{ℕ, zero, suc, ◌+◌, ◌-◌, ◌≤◌, ◌<◌}
use mathlib.Core.Path.{◌≡◌, refl, sym, ap, ◌∙◌}
use mathlib.Core.List.{List}
use native.Mathlib.Nat.{add_assoc}
use native.Mathlib.Omega.{arith}
use lib.ListN.{length}
use Rattle.attempt.proofs.Laws.{hit_takes}
use Rattle.attempt.specs.Attempt.{Tried, miss, hit, attempt_at}
use Rattle.record.proofs.Numbers.{by_order}
use Rattle.scan.proofs.Fuel.{any_fuel}
use Rattle.scan.proofs.Laws.{scan_none, scan_missed, scan_found, scan_full, scan_end}
use Rattle.scan.specs.Scan.{Run, through, missed, found, scan_from, run_place}
use Rattle.scanlaws.specs.Joined.{joined}

module _ (s hints : List ℕ) where
  -- rows before, and as much more room, make no other run
  pub shifted : (f k room o n : ℕ) → scan_from f s hints (k + room) o (k + n) ≡ scan_from f s hints room o n
  shifted zero k room o n = scan_none s hints (k + room) o (k + n) ∙ sym (scan_none s hints room o n)
  shifted (suc f) k room o n =
      by_order o (length s - 2) (λ lt. go lt (attempt_at s hints o) refl (λ o' n'. shifted f k room o' n'))
      (λ ge. scan_end (suc f) s hints (k + room) o (k + n) ge ∙ sym (scan_end (suc f) s hints room o n ge))
    where
      go : o < length s - 2 → (t : Tried) → attempt_at s hints o ≡ t
          → ((o' n' : ℕ) → scan_from f s hints (k + room) o' (k + n') ≡ scan_from f s hints room o' n')
          → scan_from (suc f) s hints (k + room) o (k + n) ≡ scan_from (suc f) s hints room o n
      go lt miss e rest =
          scan_missed f s hints (k + room) o (k + n) lt e
          ∙ ap (λ (t : Run). missed o t) (rest (o + 1) n)
          ∙ sym (scan_missed f s hints room o n lt e)
      go lt (hit x) e rest =
          by_order n room
          (λ in'.
          scan_found f s hints (k + room) o (k + n) lt x e (omega arith)
          ∙ ap (λ (t : Run). found o x t) (rw (add_assoc k n 1) (rest (o + x.consumed) (n + 1)))
          ∙ sym (scan_found f s hints room o n lt x e in'))
          (λ out. scan_full f s hints (k + room) o (k + n) lt x e (omega arith) ∙ sym (scan_full f s hints room o n lt x e out))

  -- a call's run
  abbrev pub run : ℕ → ℕ → Run
  run room start = scan_from (length s) s hints room start 0

  -- from the end on there is nothing more
  pub run_end : (room start : ℕ) → length s - 2 ≤ start → run room start ≡ through
  run_end room start h = scan_end (length s) s hints room start 0 h

  module _ (a b : ℕ) where
    -- the run from where another stopped
    abbrev then : Run → Run
    then t = run b (run_place (length s) t)

    ended : through ≡ then through
    ended = sym (run_end b (length s) (omega arith))

    goes_on : (f o n : ℕ) → n ≤ a → length s ≤ o + f → let t = scan_from f s hints a o n in scan_from f s hints (a + b) o n ≡ joined t (then t)
    goes_on zero o n h q = rw (scan_none s hints (a + b) o n, scan_none s hints a o n) ended
    goes_on (suc f) o n h q =
        by_order o (length s - 2) (λ lt. go lt (attempt_at s hints o) refl (λ o' n' h' q'. goes_on f o' n' h' q'))
        (λ ge. rw (scan_end (suc f) s hints (a + b) o n ge, scan_end (suc f) s hints a o n ge) ended)
      where
        go : o < length s - 2 → (t : Tried) → attempt_at s hints o ≡ t
            → ((o' n' : ℕ) → n' ≤ a → length s ≤ o' + f → let t = scan_from f s hints a o' n' in scan_from f s hints (a + b) o' n' ≡ joined t (then t))
            → let t = scan_from (suc f) s hints a o n in scan_from (suc f) s hints (a + b) o n ≡ joined t (then t)
        go lt miss e rest =
            rw (scan_missed f s hints (a + b) o n lt e, scan_missed f s hints a o n lt e)
            (ap (λ (t : Run). missed o t) (rest (o + 1) n h (omega arith)))
        go lt (hit x) e rest =
            by_order n a
            (λ in'.
            rw (scan_found f s hints (a + b) o n lt x e (omega arith), scan_found f s hints a o n lt x e in')
            (ap (λ (t : Run). found o x t) (rest (o + x.consumed) (n + 1) (omega arith) (omega (arith, (hit_takes s hints o x e).0)))))
            (λ out.
            let is : n ≡ a + 0 = omega arith in
            rw (scan_full f s hints a o n lt x e out)
            (rw is (shifted (suc f) a b o 0 ∙ any_fuel s hints b (suc f) (length s) o 0 q (omega arith))))

    -- THE LAW
    pub resumes : (start : ℕ) → run (a + b) start ≡ joined (run a start) (run b (run_place (length s) (run a start)))
    resumes start = goes_on (length s) start 0 (omega arith) (omega arith)
