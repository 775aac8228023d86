-- Scans that go on where another stopped (rule 4.16).
-- Assumes nothing.
use Rattle.std.specs.Prelude.{ℕ, ◌+◌, ◌≡◌, List, [], ◌∷◌, ◌++◌, Ok}
use Rattle.scan.specs.Scan.{Run, through, no_room, missed, found, run_number}
use Rattle.scan.specs.Sheet.{Sheet, Asked, asked_checked, asked_run, asked_sheet, asked_count}

-- a run that goes on: the second comes where the first was through, or found no room
abbrev pub joined : Run → Run → Run
joined through u = u
joined (no_room o) u = u
joined (missed o t) u = missed o (joined t u)
joined (found o x t) u = found o x (joined t u)

-- two sheets one behind the other: rows and entries in order, the rows counted together; the number and the place are the second's
abbrev pub joined_sheet : Sheet → Sheet → Sheet
joined_sheet x y =
    record {
      rows = x.rows ++ y.rows;
      entries = x.entries ++ y.entries;
      number = y.number;
      written = x.written + y.written;
      place = y.place;
    }

-- behind a sheet that a second adds nothing to: no rows, and the same number and place
abbrev pub nothing_more : Sheet → Sheet
nothing_more x = record { rows = []; entries = []; number = x.number; written = 0; place = x.place }

-- the same question from elsewhere, or with other room
abbrev pub asked_from : Asked → ℕ → ℕ → Asked
asked_from q start room = record { region = q.region; hints = q.hints; base = q.base; start = start; room = room }

abbrev pub with_room : Asked → ℕ → Asked
with_room q room = asked_from q q.start room

-- what is asked next, from the place that was returned, with room for so many rows
abbrev pub asked_next : Asked → ℕ → Asked
asked_next q room = asked_from q (asked_sheet q).place room

-- one question as two: the rooms add up, and the second starts at the place that the first returned
pub record InTwo (whole first second : Asked) (place : ℕ) : Type 0 where
  pub first_same : first ≡ with_room whole first.room
  pub second_same : second ≡ asked_from whole place second.room
  pub rooms_add : whole.room ≡ first.room + second.room

-- two questions that get the same sheet and the same count
abbrev pub AnsweredAlike : Asked → Asked → Type 0
AnsweredAlike p q = (asked_sheet p ≡ asked_sheet q) × (asked_count p ≡ asked_count q)

-- no row of it finds no room: it is through, or a check refuses it
abbrev pub Settled : Asked → Type 0
Settled q = asked_checked q ≡ (Ok tt) → run_number (asked_run q) ≡ 0

-- a question and then as many more as there are rooms, each from the place that the one before returned: their rooms, their sheets and
-- their counts together
abbrev pub all_rooms : ℕ → List ℕ → ℕ
all_rooms room [] = room
all_rooms room (r ∷ rs) = room + all_rooms r rs

abbrev pub all_sheets : Asked → List ℕ → Sheet
all_sheets q [] = asked_sheet q
all_sheets q (r ∷ rs) = joined_sheet (asked_sheet q) (all_sheets (asked_next q r) rs)

abbrev pub all_counts : Asked → List ℕ → ℕ
all_counts q [] = asked_count q
all_counts q (r ∷ rs) = asked_count q + all_counts (asked_next q r) rs
