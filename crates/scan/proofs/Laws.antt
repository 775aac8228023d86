-- What other crates rest on: they cite these laws and unfold no definition of this one.
-- Assumes nothing.
use Rattle.std.specs.Prelude.{Result, Err, Ok}
use Prim.Native.Nat.{ℕ, zero, suc, ◌+◌, ◌-◌, ◌*◌, ◌≤◌, ◌<◌}
use mathlib.Core.Path.{◌≡◌, refl, ap, ◌∙◌}
use mathlib.Core.List.{List}
use native.Mathlib.Omega.{arith}
use lib.ListN.{length}
use Rattle.attempt.proofs.Laws.{hit_takes}
use Rattle.attempt.specs.Attempt.{Tried, miss, hit, attempt_at}
use Rattle.attempt.specs.Places.{most_places}
use Rattle.record.proofs.Numbers.{by_order}
use Rattle.scan.specs.Scan.{Run, through, no_room, missed, found, scan_from, row_count, finished_places, tried_offsets, run_number, done, full, end_of, answer_of, number_of, written_of, place_of, read_of, ScanAsked, scan_asked, call_checked, call_room, scan_run, scan_answer, scan_written, scan_place, scan_count}
use Rattle.scan.specs.Sheet.{Asked, asked, asked_checked, asked_run, asked_sheet, asked_count, Counts}
use Rattle.scan.specs.declared.schema_sig.Scanned.{Scanned}
use Rattle.sheet.specs.declared.refusal.Refusal.{Refusal}
use Rattle.scan.proofs.Answers.{scan_numbers}
use Rattle.scan.proofs.Leaving.{sheet_left, count_left}
pub use Rattle.scan.proofs.Running.{scan_none, scan_missed, scan_found, scan_full, scan_end}
use Rattle.scan.proofs.SameRun.{finished_few}
use Rattle.sheet.specs.Refusal.{Checked, after}

-- ---- a run

-- where it found no room, if it did: from lo on, and in the region
abbrev FullFrom : ℕ → ℕ → Run → Type 0
FullFrom len lo through = Unit {0}
FullFrom len lo (no_room o) = (lo ≤ o) × (o < len)
FullFrom len lo (missed o t) = FullFrom len lo t
FullFrom len lo (found o x t) = FullFrom len lo t

-- of a run from o on, with n rows before it and fuel for f attempts
record Goes (len lo room f n : ℕ) (t : Run) : Type 0 where
  full_from : FullFrom len lo t
  rows_fit : n + row_count t ≤ room
  few : tried_offsets t ≤ f

module _ (s hints : List ℕ) (room : ℕ) where
  goes : (f o n lo : ℕ) → lo ≤ o → n ≤ room → Goes (length s) lo room f n (scan_from f s hints room o n)
  goes zero o n lo h m = rw (scan_none s hints room o n) (record { full_from = tt; rows_fit = omega arith; few = omega arith })
  goes (suc f) o n lo h m =
      by_order o (length s - 2) (λ lt. go lt (attempt_at s hints o) refl (λ o' n' h' m'. goes f o' n' lo h' m'))
      (λ ge. rw (scan_end (suc f) s hints room o n ge) (record { full_from = tt; rows_fit = omega arith; few = omega arith }))
    where
      go : o < length s - 2 → (t : Tried) → attempt_at s hints o ≡ t
          → ((o' n' : ℕ) → lo ≤ o' → n' ≤ room → Goes (length s) lo room f n' (scan_from f s hints room o' n'))
          → Goes (length s) lo room (suc f) n (scan_from (suc f) s hints room o n)
      go lt miss e rest =
          let g = rest (o + 1) n (omega arith) m in
          rw (scan_missed f s hints room o n lt e) (record { full_from = g.full_from; rows_fit = g.rows_fit; few = omega (arith, g.few) })
      go lt (hit x) e rest =
          by_order n room
          (λ in'.
          let g = rest (o + x.consumed) (n + 1) (omega arith) (omega arith) in
          rw (scan_found f s hints room o n lt x e in')
          (record { full_from = g.full_from; rows_fit = omega (arith, g.rows_fit); few = omega (arith, g.few) }))
          (λ out. rw (scan_full f s hints room o n lt x e out) (record { full_from = (h, omega arith); rows_fit = omega arith; few = omega arith }))

  -- with room for a row the place is past the start
  goes_past : (f o : ℕ) → 0 < room → FullFrom (length s) (suc o) (scan_from f s hints room o 0)
  goes_past zero o r = rw (scan_none s hints room o 0) tt
  goes_past (suc f) o r =
      by_order o (length s - 2) (λ lt. go lt (attempt_at s hints o) refl) (λ ge. rw (scan_end (suc f) s hints room o 0 ge) tt)
    where
      go : o < length s - 2 → (t : Tried) → attempt_at s hints o ≡ t → FullFrom (length s) (suc o) (scan_from (suc f) s hints room o 0)
      go lt miss e = rw (scan_missed f s hints room o 0 lt e) (goes f (o + 1) 0 (suc o) (omega arith) (omega arith)).full_from
      go lt (hit x) e =
          rw (scan_found f s hints room o 0 lt x e r) (goes f (o + x.consumed) (0 + 1) (suc o) (omega (arith, (hit_takes s hints o x e).0)) (omega arith)).full_from

-- ---- the answer

-- rows fit the room, a place where none was left is past the start and in the region, and the count is small
pub record Bounded (len start room : ℕ) (a : Result Scanned Refusal) : Type 0 where
  pub rows_fit : written_of a ≤ room
  pub read_few : read_of a ≤ most_places * len
  pub past : (rows place read : ℕ) → a ≡ Ok (full rows place read) → 0 < room → (start < place) × (place < len)

module _ (len start room : ℕ) (rows read : ℕ) (fits : rows ≤ room) (few : read ≤ most_places * len) where
  end_bounded : (t : Run) → (0 < room → FullFrom len (suc start) t) → Bounded len start room (Ok (end_of len rows read t))
  end_bounded through p = record { rows_fit = fits; read_few = few; past = λ n q r e. absurd (let z = ap number_of e in omega arith) }
  end_bounded (no_room o) p =
      record {
        rows_fit = fits;
        read_few = few;
        past = λ n q r e some. let z = ap place_of e in rw z at (p some);
      }
  end_bounded (missed o t) p = end_bounded t p
  end_bounded (found o x t) p = end_bounded t p

-- THE LAW
pub scan_bounded : (a : ScanAsked) → Bounded (length a.region) a.start (call_room a) (scan_answer a)
unfolding scan_answer
scan_bounded a = go a.region a.hints a.start (call_checked a) (call_room a)
  where
    go : (s hints : List ℕ) (start : ℕ) (c : Checked) (room : ℕ) → Bounded (length s) start room (after Err c (Ok (answer_of s (scan_from (length s) s hints room start 0))))
    go s hints start (Ok tt) room =
        let t = scan_from (length s) s hints room start 0 in
        let g = goes s hints room (length s) start 0 0 (omega arith) (omega arith) in
        end_bounded (length s) start room (row_count t) (length (finished_places s t)) (omega (arith, g.rows_fit))
        (omega (arith, g.few, finished_few s t)) t (λ r. goes_past s hints room (length s) start r)
    go s hints start (Err r) room =
        record { rows_fit = omega arith; read_few = omega arith; past = λ n q k e. absurd (let z : ◌≡◌ {A = ℕ} 0 1 = cc in omega arith) }

-- THE LAW: what the lists hold is no matter to the answer, only how long they are
pub same_answer : (s hints : List ℕ) (base start : ℕ) (rows cols rows' cols' : List ℕ) → length rows ≡ length rows' → length cols ≡ length cols'
    → scan_answer (scan_asked s hints base start rows cols) ≡ scan_answer (scan_asked s hints base start rows' cols')
unfolding scan_answer
same_answer s hints base start rows cols rows' cols' e f = rw (e, f)

-- ---- an answer, by what the call is asked: it leaves no more to find unless it says that there was no room
pub record AnswersAsked (q : Asked) (x : Result Scanned Refusal) : Type 0 where
  pub written : written_of x ≡ (asked_sheet q).written
  pub place : place_of x ≡ (asked_sheet q).place
  pub count : read_of x ≡ asked_count q
  pub settled : ((rows place read : ℕ) → x ≡ Ok (full rows place read) → ⊥) → asked_checked q ≡ (Ok tt) → run_number (asked_run q) ≡ 0

module _ (len rows read : ℕ) where
  end_settled : (t : Run) → ((n p r : ℕ) → end_of len rows read t ≡ full n p r → ⊥) → run_number t ≡ 0
  end_settled through none = refl
  end_settled (no_room o) none = absurd (none rows o read refl)
  end_settled (missed o t) none = end_settled t none
  end_settled (found o x t) none = end_settled t none

-- THE LAW
pub answers_asked : (a : ScanAsked) → AnswersAsked (asked a.region a.hints a.base a.start a.rows a.cols) (scan_answer a)
unfolding scan_answer scan_written scan_place scan_count
answers_asked a =
    let n = scan_numbers a.region (call_checked a) (scan_run a) in
    let left = sheet_left a.region a.hints a.base a.start a.rows a.cols in
    record {
      written = n.1 ∙ ap (λ x. x.written) left;
      place = n.2 ∙ ap (λ x. x.place) left;
      count = n.3 ∙ count_left a.region a.hints a.base a.start a.rows a.cols;
      settled = λ none e. end_settled _ _ _ (scan_run a) (λ n p r d. none n p r (rw e (ap Ok d)));
    }

-- ---- the count of a call that no check refuses
pub count_passed : (a : Asked) (count : ℕ) → count ≡ asked_count a → asked_checked a ≡ (Ok tt) → Counts a count
unfolding asked_count
count_passed a count is e =
    let n : count ≡ length (finished_places a.region (asked_run a)) = rw e at is in
    record { places = n; few = omega (arith, n, finished_few a.region (asked_run a)) }
