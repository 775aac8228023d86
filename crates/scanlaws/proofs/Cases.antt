-- Resuming adds up (rule 4.16), case by case: room for none first, behind, or both times; a first call that was done; a start behind the last
-- offset; a refusal; three calls.
-- Assumes nothing.
use Rattle.std.specs.Prelude.{Err, Ok}
use Prim.Native.Nat.{ℕ, zero, suc, ◌+◌, ◌-◌, ◌≤◌, ◌<◌}
use mathlib.Core.Path.{◌≡◌, refl, sym, ap, ◌∙◌}
use mathlib.Core.List.{List, [], ◌++◌, append-nil, append_assoc}
use native.Mathlib.Nat.{zero-add, add-zero, add_assoc}
use native.Mathlib.Omega.{arith}
use lib.ListN.{length, drop}
use lib.Seq.{drop-append_seam}
use Rattle.attempt.specs.Attempt.{Tried, miss, hit, attempt_at}
use Rattle.record.proofs.Numbers.{by_order}
use Rattle.scan.proofs.Laws.{scan_none, scan_missed, scan_full, scan_end}
use Rattle.scan.specs.Scan.{scan_from}
use Rattle.scan.specs.Sheet.{Sheet, Asked, asked_checked, asked_run, run_sheet, empty_sheet, asked_sheet, asked_count}
use Rattle.scanlaws.proofs.Asking.{sheets_join, counts_add, settled_same}
use Rattle.scanlaws.proofs.Resuming.{run_end}
use Rattle.scanlaws.specs.Joined.{joined_sheet, with_room, asked_from, asked_next, nothing_more}
use Rattle.sheet.specs.Refusal.{after}
use Rattle.sheet.specs.Refusal.{Checked}
use Rattle.sheet.specs.declared.refusal.Refusal.{Refusal}

-- a run with room for none has no rows to come before others
module _ (s hints : List ℕ) (base : ℕ) where
  none_before : (f o : ℕ) (y : Sheet) → joined_sheet (run_sheet (length s) base (length hints) (scan_from f s hints 0 o 0)) y ≡ y
  none_before zero o y = rw (scan_none s hints 0 o 0, zero-add y.written)
  none_before (suc f) o y =
      by_order o (length s - 2) (λ lt. go lt (attempt_at s hints o) refl (none_before f (o + 1) y))
      (λ ge. rw (scan_end (suc f) s hints 0 o 0 ge, zero-add y.written))
    where
      go : o < length s - 2 → (t : Tried) → attempt_at s hints o ≡ t
          → joined_sheet (run_sheet (length s) base (length hints) (scan_from f s hints 0 (o + 1) 0)) y ≡ y
          → joined_sheet (run_sheet (length s) base (length hints) (scan_from (suc f) s hints 0 o 0)) y ≡ y
      go lt miss e rest = rw (scan_missed f s hints 0 o 0 lt e) rest
      go lt (hit x) e rest = rw (scan_full f s hints 0 o 0 lt x e (omega arith), zero-add y.written)

none_asked : (q : Asked) (y : Sheet) → joined_sheet (asked_sheet (with_room q 0)) y ≡ y
unfolding asked_sheet
none_asked q y = go (asked_checked q)
  where
    go : (c : Checked) → joined_sheet (after empty_sheet c (run_sheet (length q.region) q.base (length q.hints) (asked_run (with_room q 0)))) y ≡ y
    go (Ok tt) = none_before q.region q.hints q.base (length q.region) q.start y
    go (Err r) = rw (zero-add y.written)

-- a sheet behind another that makes no other of it
nothing_behind : (xs ys : List ℕ) → xs ≡ xs ++ ys → ys ≡ []
nothing_behind xs ys e =
    let seam = drop-append_seam {A = ℕ} xs in
    sym (seam ys) ∙ ap (drop (length xs)) (sym e ∙ sym (append-nil xs)) ∙ seam []

no_sheet_behind : (x y : Sheet) → x ≡ joined_sheet x y → y ≡ nothing_more x
no_sheet_behind x y e =
    let none : y.written ≡ 0 = omega (arith, ap (λ z. z.written) e) in
    rw (
      nothing_behind x.rows y.rows (ap (λ z. z.rows) e),
      nothing_behind x.entries y.entries (ap (λ z. z.entries) e),
      none,
      ← (ap (λ z. z.number) e),
      ← (ap (λ z. z.place) e),
    )

module _ (q : Asked) where
  -- a = 0: the second call writes all that one with its room writes
  pub none_first : (b : ℕ) → let second = asked_next (with_room q 0) b in
      (asked_sheet second ≡ asked_sheet (with_room q b)) × (asked_count (with_room q 0) + asked_count second ≡ asked_count (with_room q b))
  none_first b =
      let sheets = rw (zero-add b) at (sheets_join q 0 b) in
      let counts = rw (zero-add b) at (counts_add q 0 b) in
      (sym (sheets ∙ none_asked q (asked_sheet (asked_next (with_room q 0) b))), sym counts)

  -- b = 0: the second call writes and counts nothing, and its number and place are the first's
  pub none_behind : (a : ℕ) → let first = asked_sheet (with_room q a) in let second = asked_next (with_room q a) 0 in
      (asked_sheet second ≡ nothing_more first) × (asked_count second ≡ 0)
  none_behind a =
      let sheets = rw (add-zero a) at (sheets_join q a 0) in
      let counts = rw (add-zero a) at (counts_add q a 0) in
      (no_sheet_behind (asked_sheet (with_room q a)) (asked_sheet (asked_next (with_room q a) 0)) sheets, omega (arith, counts))

  -- both: the second call leaves what the first did, and counts nothing
  pub none_twice : let first = with_room q 0 in (asked_sheet (asked_next first 0) ≡ asked_sheet first) × (asked_count (asked_next first 0) ≡ 0)
  none_twice = ((none_first 0).0, (none_behind 0).1)

  -- a first call that was done: the second writes and counts nothing, and its number and place are the first's
  pub done_first : (a b : ℕ) → let first = asked_sheet (with_room q a) in let second = asked_next (with_room q a) b in
      first.number ≡ 0 → (asked_sheet second ≡ nothing_more first) × (asked_count second ≡ 0)
  unfolding asked_sheet
  done_first a b e =
      let same = settled_same q a b (λ p. rw p at e) in
      (no_sheet_behind (asked_sheet (with_room q a)) (asked_sheet (asked_next (with_room q a) b)) (sym same.0 ∙ sheets_join q a b), omega (arith, same.1, counts_add q a b))

  -- a start behind the last offset: nothing is read, and the place is the region's end
  pub start_behind : length q.region - 2 ≤ q.start → asked_checked q ≡ (Ok tt)
      → (asked_sheet q ≡ record { rows = []; entries = []; number = 0; written = 0; place = length q.region }) × (asked_count q ≡ 0)
  unfolding asked_sheet asked_count
  start_behind h p = rw (p, run_end q.region q.hints q.room q.start h) (refl, refl)

  -- a refusal: the same, wherever it starts and with any room
  pub refused_each : (r : Refusal) → asked_checked q ≡ Err r → (start room : ℕ)
      → (asked_sheet (asked_from q start room) ≡ empty_sheet r) × (asked_count (asked_from q start room) ≡ 0)
  unfolding asked_sheet asked_count
  refused_each r e start room = rw e (refl, refl)

-- ---- three calls
pub sheet_assoc : (x y z : Sheet) → joined_sheet (joined_sheet x y) z ≡ joined_sheet x (joined_sheet y z)
sheet_assoc x y z =
    rw (append_assoc x.rows y.rows z.rows, append_assoc x.entries y.entries z.entries, add_assoc x.written y.written z.written)

module _ (q : Asked) (a b c : ℕ) where
  abbrev first : Asked
  first = with_room q a

  abbrev second : Asked
  second = asked_next first b

  abbrev third : Asked
  third = asked_next second c

  -- the third is the same behind the first two as one
  pub third_same : asked_next (with_room q (a + b)) c ≡ third
  third_same = rw (sheets_join q a b)

  -- THE LAW: grouped either way they are the one call with all the room
  pub three_calls : let whole = with_room q (a + b + c) in
      (asked_sheet whole ≡ joined_sheet (joined_sheet (asked_sheet first) (asked_sheet second)) (asked_sheet third))
      × (asked_sheet whole ≡ joined_sheet (asked_sheet first) (joined_sheet (asked_sheet second) (asked_sheet third)))
      × (asked_count whole ≡ asked_count first + asked_count second + asked_count third)
  three_calls =
      let left = rw (third_same, sheets_join q a b) at (sheets_join q (a + b) c) in (
        left,
        left ∙ sheet_assoc (asked_sheet first) (asked_sheet second) (asked_sheet third),
        rw (third_same, counts_add q a b) at (counts_add q (a + b) c),
      )
