-- What two runs that are joined come to: the rows, the entries, the header places and the values of the one and then of the other, and the
-- number and the place of the second. Three are joined either way.
-- Assumes nothing.
use Prim.Native.Nat.{ℕ}
use mathlib.Core.Path.{◌≡◌, refl, sym, ap}
use mathlib.Core.List.{List, ◌++◌, append_assoc}
use native.Mathlib.Nat.{zero-add, suc-add}
use native.Mathlib.Omega.{arith}
use lib.ListN.{length}
use Rattle.attempt.specs.Places.{attempt_places}
use Rattle.attempt.specs.Values.{row_values}
use Rattle.scan.specs.Scan.{Run, through, no_room, missed, found, row_of, rows_of, row_count, entries_of, finished_places, run_place, run_number}
use Rattle.scan.specs.Sheet.{run_sheet, run_values}
use Rattle.scanlaws.specs.Joined.{joined, joined_sheet}
use Rattle.scanlaws.specs.Listed.{placed, placed_rows, placed_entries}
use Rattle.sheet.specs.Row.{row_words}
use Rattle.sheet.specs.Sheet.{rows_words, columns_words}

pub joined_assoc : (t u v : Run) → joined (joined t u) v ≡ joined t (joined u v)
joined_assoc through u v = refl
joined_assoc (no_room o) u v = refl
joined_assoc (missed o t) u v = ap (λ (r : Run). missed o r) (joined_assoc t u v)
joined_assoc (found o x t) u v = ap (λ (r : Run). found o x r) (joined_assoc t u v)

-- nothing comes behind a run that was through
pub joined_through : (t : Run) → run_number t ≡ 0 → joined t through ≡ t
joined_through through e = refl
joined_through (no_room o) e = absurd (omega (arith, e))
joined_through (missed o t) e = ap (λ (r : Run). missed o r) (joined_through t e)
joined_through (found o x t) e = ap (λ (r : Run). found o x r) (joined_through t e)

-- and its place is the region's end
pub through_place : (len : ℕ) (t : Run) → run_number t ≡ 0 → run_place len t ≡ len
through_place len through e = refl
through_place len (no_room o) e = absurd (omega (arith, e))
through_place len (missed o t) e = through_place len t e
through_place len (found o x t) e = through_place len t e

module _ (s : List ℕ) where
  pub places_joined : (t u : Run) → finished_places s (joined t u) ≡ finished_places s t ++ finished_places s u
  places_joined through u = refl
  places_joined (no_room o) u = refl
  places_joined (missed o t) u = rw (places_joined t u) (sym (append_assoc (attempt_places s o) (finished_places s t) (finished_places s u)))
  places_joined (found o x t) u = rw (places_joined t u) (sym (append_assoc (attempt_places s o) (finished_places s t) (finished_places s u)))

  pub values_joined : (t u : Run) → run_values s (joined t u) ≡ run_values s t ++ run_values s u
  values_joined through u = refl
  values_joined (no_room o) u = refl
  values_joined (missed o t) u = values_joined t u
  values_joined (found o x t) u = rw (values_joined t u) (sym (append_assoc (row_values s o) (run_values s t) (run_values s u)))

module _ (len base columns : ℕ) where
  -- THE LAW: rows, entries, number, rows counted and place at once
  pub sheet_joined : (t u : Run) → run_sheet len base columns (joined t u) ≡ joined_sheet (run_sheet len base columns t) (run_sheet len base columns u)
  sheet_joined through u = rw (zero-add (row_count u))
  sheet_joined (no_room o) u = rw (zero-add (row_count u))
  sheet_joined (missed o t) u = sheet_joined t u
  sheet_joined (found o x t) u =
      let rest = sheet_joined t u in
      rw (
        ap (λ y. y.rows) rest,
        ap (λ y. y.entries) rest,
        ap (λ y. y.number) rest,
        ap (λ y. y.written) rest,
        ap (λ y. y.place) rest,
        append_assoc (row_words (row_of base columns o x)) (rows_words (rows_of base columns t)) (rows_words (rows_of base columns u)),
        append_assoc (columns_words x.columns) (entries_of t) (entries_of u),
        suc-add (row_count t) (row_count u),
      )

  -- the rows of a run, as those of a list
  pub sheet_placed : (t : Run) → (rows_of base columns t ≡ placed_rows base columns (placed t)) × (entries_of t ≡ placed_entries (placed t)) × (row_count t ≡ length (placed t))
  sheet_placed through = (refl, refl, refl)
  sheet_placed (no_room o) = (refl, refl, refl)
  sheet_placed (missed o t) = sheet_placed t
  sheet_placed (found o x t) = let rest = sheet_placed t in rw (rest.0, rest.1, rest.2) (refl, refl, refl)
