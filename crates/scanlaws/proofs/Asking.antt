-- Resuming adds up (rule 4.16), of what a scan is asked: its sheet, its count and its values are those of two that go one behind the other, also
-- where a check refuses; so are those of any number of them.
-- Assumes nothing.
use Rattle.std.specs.Prelude.{Err, Ok}
use Prim.Native.Nat.{ℕ, ◌+◌, ◌≤◌}
use mathlib.Core.Path.{◌≡◌, refl, sym, ap, ◌∙◌}
use mathlib.Core.List.{List, [], ◌∷◌, ◌++◌}
use lib.ListN.{length, length-append}
use Rattle.scan.specs.Scan.{Run, run_place, finished_places}
use Rattle.scan.specs.Sheet.{Sheet, Asked, asked_checked, asked_run, run_sheet, empty_sheet, run_values, asked_sheet, asked_count, asked_values}
use Rattle.scanlaws.proofs.Folds.{sheet_joined, places_joined, values_joined}
use Rattle.scanlaws.proofs.Resuming.{resumes}
use Rattle.scanlaws.proofs.Room.{more_room, any_room}
use Rattle.scanlaws.specs.Joined.{joined, joined_sheet, with_room, asked_from, asked_next, InTwo, AnsweredAlike, Settled, all_rooms, all_sheets, all_counts}
use Rattle.sheet.specs.Refusal.{after, after_or0}
use Rattle.sheet.specs.Refusal.{Checked}
use Rattle.sheet.specs.declared.refusal.Refusal.{Refusal}

module _ (q : Asked) (a b : ℕ) where
  abbrev sheet : Run → Sheet
  sheet t = run_sheet (length q.region) q.base (length q.hints) t

  abbrev first : Run
  first = asked_run (with_room q a)

  abbrev whole : Run
  whole = asked_run (with_room q (a + b))

  -- checks do not look at start and room; what passes them goes over joined runs, and a refusal behind the same one is that refusal
  checked : {A : Type 0} (refused : Refusal → A) (of : Run → A) (join : A → A → A)
      → ((r : Refusal) → refused r ≡ join (refused r) (refused r)) → ((t u : Run) → of (joined t u) ≡ join (of t) (of u))
      → (c : Checked) → let second = asked_run (asked_from q (after empty_sheet c (sheet first)).place b) in
      after refused c (of whole) ≡ join (after refused c (of first)) (after refused c (of second))
  checked refused of join twice over (Ok tt) =
      ap of (resumes q.region q.hints a b q.start) ∙ over first (asked_run (asked_from q (run_place (length q.region) first) b))
  checked refused of join twice over (Err r) = twice r

  -- THE LAWS
  pub sheets_join : asked_sheet (with_room q (a + b)) ≡ joined_sheet (asked_sheet (with_room q a)) (asked_sheet (asked_next (with_room q a) b))
  unfolding asked_sheet
  sheets_join = checked empty_sheet sheet joined_sheet (λ r. refl) (sheet_joined (length q.region) q.base (length q.hints)) (asked_checked q)

  pub counts_add : asked_count (with_room q (a + b)) ≡ asked_count (with_room q a) + asked_count (asked_next (with_room q a) b)
  unfolding asked_sheet asked_count
  counts_add =
      let places = finished_places q.region in
      checked (λ r. 0) (λ t. length (places t)) ◌+◌ (λ r. refl)
      (λ t u. ap length (places_joined q.region t u) ∙ length-append (places t) (places u)) (asked_checked q)

  pub values_join : asked_values (with_room q (a + b)) ≡ asked_values (with_room q a) ++ asked_values (asked_next (with_room q a) b)
  unfolding asked_sheet asked_values
  values_join = checked (λ r. []) (run_values q.region) ◌++◌ (λ r. refl) (values_joined q.region) (asked_checked q)

  -- THE LAW: what is settled is the same with more room
  pub settled_same : Settled (with_room q a) → AnsweredAlike (with_room q (a + b)) (with_room q a)
  unfolding asked_sheet asked_count
  settled_same h = go (asked_checked q) refl
    where
      go : (c : Checked) → asked_checked q ≡ c →
          (after empty_sheet c (sheet whole) ≡ after empty_sheet c (sheet first))
          × (after_or0 c (length (finished_places q.region whole)) ≡ after_or0 c (length (finished_places q.region first)))
      go (Ok tt) e = rw (more_room q.region q.hints a b q.start (h e)) (refl, refl)
      go (Err r) e = (refl, refl)

-- THE LAW: room for as many rows as there are bytes is enough
pub enough_room : (q : Asked) (room : ℕ) → length q.region ≤ room → AnsweredAlike (with_room q room) (with_room q (length q.region))
unfolding asked_sheet asked_count
enough_room q room h = rw (any_room q.region q.hints room q.start h) (refl, refl)

-- THE LAW, of three questions
pub in_two : (whole first second : Asked) → InTwo whole first second (asked_sheet first).place
    → (asked_sheet whole ≡ joined_sheet (asked_sheet first) (asked_sheet second)) × (asked_count whole ≡ asked_count first + asked_count second)
in_two whole first second e =
    let sheets = sheets_join whole first.room second.room in
    let counts = counts_add whole first.room second.room in
    rw (e.second_same, e.first_same) (rw (← e.rooms_add) at sheets, rw (← e.rooms_add) at counts)

-- as three calls leave them, each with its sheet and its count
pub as_left : (whole first second : Asked) {x y z : Sheet} {l m n : ℕ}
    → (x ≡ asked_sheet whole) × (l ≡ asked_count whole) → (y ≡ asked_sheet first) × (m ≡ asked_count first) → (z ≡ asked_sheet second) × (n ≡ asked_count second)
    → InTwo whole first second y.place → (x ≡ joined_sheet y z) × (l ≡ m + n)
as_left whole first second p q r e =
    let law = in_two whole first second (rw q.0 at e) in
    rw (p.0, q.0, r.0, p.1, q.1, r.1) law

-- THE LAW, of any number of them
pub all_add_up : (q : Asked) (rooms : List ℕ) → let whole = with_room q (all_rooms q.room rooms) in
    (all_sheets q rooms ≡ asked_sheet whole) × (all_counts q rooms ≡ asked_count whole)
all_add_up q [] = (refl, refl)
all_add_up q (r ∷ rs) =
    let rest = all_add_up (asked_next q r) rs in
    let more = all_rooms r rs in (
      ap (joined_sheet (asked_sheet q)) rest.0 ∙ sym (sheets_join q q.room more),
      ap (λ (n : ℕ). asked_count q + n) rest.1 ∙ sym (counts_add q q.room more),
    )
