-- Demand 3 of the definitions: a scan looks at its header places alone, and counts them.
-- Assumes nothing.
use Rattle.std.specs.Prelude.{Err, Ok}
use Prim.Native.Nat.{ℕ, zero, suc, zero-le, ◌+◌, ◌-◌, ◌*◌, ◌≤◌, ◌<◌}
use mathlib.Core.Path.{◌≡◌, refl, sym, ◌∙◌}
use mathlib.Core.List.{List, []}
use native.Mathlib.Omega.{arith}
use lib.ListN.{length, length-append}
use Rattle.attempt.proofs.Agreeing.{agree_split, attempt_same, attempt_places_same}
use Rattle.attempt.proofs.Laws.{places_few}
use Rattle.attempt.specs.Attempt.{Tried, miss, hit, attempt_at}
use Rattle.attempt.specs.Places.{most_places, attempt_places}
use Rattle.record.proofs.Numbers.{by_order}
use Rattle.record.specs.Places.{AgreeAt}
use Rattle.scan.specs.Scan.{Run, through, no_room, missed, found, scan_from, all_places, finished_places, tried_offsets}
use Rattle.scan.specs.Sheet.{Asked, asked_checked, asked_run, run_sheet, empty_sheet, asked_sheet, asked_count, asked_places, Alike}
use Rattle.scan.proofs.Running.{scan_none, scan_missed, scan_found, scan_full, scan_end}
use Rattle.sheet.specs.Refusal.{after, after_or0, after_or_kept}
use Rattle.sheet.specs.Refusal.{Checked}

module _ (x y : List ℕ) (same : length x ≡ length y) where
  -- ---- the same run
  pub run_same : (f : ℕ) (hints : List ℕ) (room o n : ℕ) → AgreeAt x y (all_places x (scan_from f x hints room o n)) → scan_from f y hints room o n ≡ scan_from f x hints room o n
  run_same zero hints room o n a = scan_none y hints room o n ∙ sym (scan_none x hints room o n)
  run_same (suc f) hints room o n a =
      by_order o (length x - 2) (λ lt. go lt (attempt_at x hints o) refl (λ o' n' b. run_same f hints room o' n' b))
      (λ ge. scan_end (suc f) y hints room o n (omega arith) ∙ sym (scan_end (suc f) x hints room o n ge))
    where
      go : o < length x - 2 → (t : Tried) → attempt_at x hints o ≡ t
          → ((o' n' : ℕ) → AgreeAt x y (all_places x (scan_from f x hints room o' n')) → scan_from f y hints room o' n' ≡ scan_from f x hints room o' n')
          → scan_from (suc f) y hints room o n ≡ scan_from (suc f) x hints room o n
      go lt miss e rest =
          let m = scan_missed f x hints room o n lt e in
          let s = agree_split x y same (attempt_places x o) (all_places x (scan_from f x hints room (o + 1) n)) (rw m at a) in
          let e' = attempt_same x y same hints o s.0 ∙ e in
          scan_missed f y hints room o n (omega arith) e' ∙ rw (rest (o + 1) n s.1) (sym m)
      go lt (hit v) e rest =
          by_order n room
          (λ in'.
          let m = scan_found f x hints room o n lt v e in' in
          let s = agree_split x y same (attempt_places x o) (all_places x (scan_from f x hints room (o + v.consumed) (n + 1))) (rw m at a) in
          let e' = attempt_same x y same hints o s.0 ∙ e in
          scan_found f y hints room o n (omega arith) v e' in' ∙ rw (rest (o + v.consumed) (n + 1) s.1) (sym m))
          (λ out.
          let m = scan_full f x hints room o n lt v e out in
          let e' = attempt_same x y same hints o (rw m at a) ∙ e in
          scan_full f y hints room o n (omega arith) v e' out ∙ sym m)

  -- ---- the same count

  finished_same : (t : Run) → AgreeAt x y (all_places x t) → finished_places y t ≡ finished_places x t
  finished_same through a = refl
  finished_same (no_room o) a = refl
  finished_same (missed o t) a =
      let s = agree_split x y same (attempt_places x o) (all_places x t) a in
      rw (attempt_places_same x y same o s.0, finished_same t s.1)
  finished_same (found o v t) a =
      let s = agree_split x y same (attempt_places x o) (all_places x t) a in
      rw (attempt_places_same x y same o s.0, finished_same t s.1)

-- THE LAW: what is alike has the same sheet and the same count
pub same_sheet : (a b : Asked) → Alike a b → (asked_sheet a ≡ asked_sheet b) × (asked_count a ≡ asked_count b)
unfolding asked_sheet asked_count asked_places
same_sheet a b e =
    rw (← e.length_same, ← e.hints_same, ← e.base_same, ← e.start_same, ← e.room_same) (go (asked_checked a) e.places_agree)
  where
    go : (c : Checked) → AgreeAt a.region b.region (after_or_kept c (all_places a.region (asked_run a)) []) →
        let t = scan_from (length a.region) b.region a.hints a.room a.start 0 in
        (after empty_sheet c (run_sheet (length a.region) a.base (length a.hints) (asked_run a)) ≡ after empty_sheet c (run_sheet (length a.region) a.base (length a.hints) t))
        × (after_or0 c (length (finished_places a.region (asked_run a))) ≡ after_or0 c (length (finished_places b.region t)))
    go (Ok tt) h =
        let r = run_same a.region b.region e.length_same (length a.region) a.hints a.room a.start 0 h in
        (rw r, rw (r, finished_same a.region b.region e.length_same (asked_run a) h))
    go (Err r) h = (refl, refl)

-- ---- the count

-- THE LAW: at most 520 for each offset tried
pub finished_few : (s : List ℕ) (t : Run) → length (finished_places s t) ≤ most_places * tried_offsets t
finished_few s through = zero-le
finished_few s (no_room o) = zero-le
finished_few s (missed o t) = omega (arith, length-append (attempt_places s o) (finished_places s t), places_few s o, finished_few s t)
finished_few s (found o v t) = omega (arith, length-append (attempt_places s o) (finished_places s t), places_few s o, finished_few s t)
