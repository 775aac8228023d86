-- The hints that rows give, and what the call answers and writes.
-- Assumes nothing.
use Rattle.std.specs.Prelude.{ℕ, zero, suc, Bool, cond, not, ◌||◌, List, [], ◌∷◌, ◌++◌, ltb, length, None, Some}
use Rattle.groups.specs.Rows.{row_count, rows_of, is_used, longest, bad_rows}
use Rattle.record.specs.Entry.{read_entry}
use Rattle.record.specs.declared.entry.Entry.{Entry}
use Rattle.record.specs.Entry.{EntryRead}
use Rattle.sheet.specs.Filled.{ListFilling}
use Rattle.sheet.specs.Limits.{largest_region, most_rows, count_fits}
use Rattle.sheet.specs.Refusal.{Check, first_held}
use Rattle.sheet.specs.declared.refusal.Refusal.TheVariants.{ColumnCount, Malformed, TooLarge}
use Rattle.learn.specs.Types.{value_type, commonest_of}

-- ---- hints

-- Rule 13.2: the type that what was read gives
abbrev pub types_of : EntryRead → List ℕ
types_of (Some v) = value_type v ∷ []
types_of None = []

-- the type that a used entry gives, over the slice s
unfoldable pub given : List ℕ → Entry → List ℕ
given s e = cond (is_used e) (types_of (read_entry e s)) []

-- and what a row gives to the column c
unfoldable pub given_at : List ℕ → ℕ → List Entry → List ℕ
given_at s c [] = []
given_at s zero (e ∷ es) = given s e
given_at s (suc c) (e ∷ es) = given_at s c es

-- all types of the column c
unfoldable pub column_types : List ℕ → ℕ → List (List Entry) → List ℕ
column_types s c [] = []
column_types s c (r ∷ rs) = given_at s c r ++ column_types s c rs

-- Rule 13.3: the hint of a column
unfoldable pub hint_of : List ℕ → ℕ → List (List Entry) → ℕ
hint_of s c rows = commonest_of (column_types s c rows)

-- the hints of the first n columns
unfoldable pub hints_below : List ℕ → ℕ → List (List Entry) → List ℕ
hints_below s zero rows = []
hints_below s (suc n) rows = hints_below s n rows ++ (hint_of s n rows ∷ [])

-- Rule 13.3: there are as many hints as the longest row has columns
unfoldable pub hints_of : List ℕ → List (List Entry) → List ℕ
hints_of s rows = hints_below s (longest rows) rows

-- ---- the call

-- Rule 13.1, the checks: a group of no entries, or of more than there may be columns,
abbrev pub miscounted : ℕ → Bool
miscounted width = not (count_fits width)

-- a row that is bad,
abbrev pub malformed : List ℕ → ℕ → List ℕ → Bool
malformed s width words = bad_rows s (rows_of width words)

-- too many bytes or too many rows
abbrev pub too_large : List ℕ → ℕ → List ℕ → Bool
too_large s width words = ltb largest_region (length s) || ltb most_rows (row_count width words)

-- what the entries give, if no check holds
abbrev pub learned : List ℕ → ℕ → List ℕ → List ℕ
learned s width words = hints_of s (rows_of width words)

-- Rule 13.1: their order; each leaves the list as it was
unfoldable pub learn_checks : List ℕ → ℕ → List ℕ → List Check
learn_checks s width words =
    record { refusal = ColumnCount; holds = miscounted width }
    ∷ record { refusal = Malformed; holds = malformed s width words }
    ∷ record { refusal = TooLarge; holds = too_large s width words }
    ∷ []

-- what its answer rests on: the slice, the width, the entries' words, and the list that is lent
abbrev pub learn_filling : List ℕ → ℕ → List ℕ → List ℕ → ListFilling
learn_filling s width words old =
    record { checked = first_held (learn_checks s width words); things = learned s width words; old = old }
