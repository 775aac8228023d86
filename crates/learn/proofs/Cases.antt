-- Worked cases of learning as one table that is computed at once, and the cases that are too large to compute.
-- Assumes nothing.
use Prim.Native.Nat.{ℕ, ◌<◌}
use mathlib.Core.Path.{◌≡◌, refl}
use mathlib.Core.Bool.{true, false, or-true}
use mathlib.Core.List.{List, [], ◌∷◌, ◌++◌, map}
use borrow.Author.Tests.{lt-ltb}
use lib.ListN.{length}
use Rattle.groups.specs.Rows.{row_count, rows_in, rows_of, columns_of, longest, any_bad, gapped, bad_rows}
use Rattle.record.specs.Entry.{bad_within, read_entry}
use Rattle.record.specs.Value.{body_length, big_endian, twos_complement, value_of}
use Rattle.sheet.specs.Filled.{list_number, list_written, list_left}
use Rattle.sheet.specs.Limits.{largest_region, most_rows, count_fits}
use Rattle.learn.specs.Learn.{given, given_at, column_types, hint_of, hints_below, hints_of, learn_checks, learn_filling}
use Rattle.learn.specs.Types.{width_type, integer_type, value_type, count_in, better, best_of, commonest_of}

-- the paper's number, how many hints are written, and what the list holds
record Outcome : Type 0 where
  number : ℕ
  written : ℕ
  types : List ℕ

-- a slice, a width, entries and a list, with what must come of them
data Case : Type 0 where
  learn : List ℕ → ℕ → List (List ℕ) → List ℕ → Outcome → Case

out : ℕ → ℕ → List ℕ → Outcome
out n k l = record { number = n; written = k; types = l }

joined : List (List ℕ) → List ℕ
joined [] = []
joined (x ∷ xs) = x ++ joined xs

-- what comes of entries that are words
came : List ℕ → ℕ → List ℕ → List ℕ → Outcome
came s width words old =
    let a = learn_filling s width words old in
    out (list_number a) (list_written a) (list_left a)

computed : Case → Outcome
computed (learn s width entries old o) = came s width (joined entries) old

expected : Case → Outcome
expected (learn s width entries old o) = o

-- an entry with a body
body : ℕ → ℕ → ℕ → List ℕ
body kind start len = 0 ∷ kind ∷ start ∷ len ∷ []

-- one that does not fit, one that is lost and one that only pads; what stands behind the state is not judged
unfit : List ℕ
unfit = 1 ∷ 23 ∷ 0 ∷ 0 ∷ []

lost : List ℕ
lost = 2 ∷ 11 ∷ 99 ∷ 7 ∷ []

unused : List ℕ
unused = 3 ∷ 10 ∷ 99 ∷ 7 ∷ []

-- 42, "hi", 0, 1, -1, 2^47 - 1 and 128
bytes : List ℕ
bytes = 42 ∷ 104 ∷ 105 ∷ 0 ∷ 1 ∷ 255 ∷ 127 ∷ 255 ∷ 255 ∷ 255 ∷ 255 ∷ 255 ∷ 0 ∷ 128 ∷ []

cases : List Case
cases =
    -- a tie goes to the smallest type: 42 is 1, "hi" 17
    learn bytes 1 (body 17 1 2 ∷ body 1 0 1 ∷ []) (77 ∷ 77 ∷ []) (out 0 1 (1 ∷ 77 ∷ []))
    -- the commonest comes before a smaller one
    ∷ learn bytes 1 (body 17 1 2 ∷ body 1 0 1 ∷ body 17 0 2 ∷ []) (77 ∷ []) (out 0 1 (17 ∷ []))
    -- 0 and 1 count as 8, whatever type they were read with; -1 does not
    ∷ learn bytes 4 (body 1 3 1 ∷ body 1 4 1 ∷ body 9 0 0 ∷ body 1 5 1 ∷ []) (77 ∷ 77 ∷ 77 ∷ 77 ∷ []) (out 0 4 (8 ∷ 8 ∷ 8 ∷ 1 ∷ []))
    -- an integer of six bytes counts as 6, and 128 in two bytes as 2
    ∷ learn bytes 2 (body 5 6 6 ∷ body 2 12 2 ∷ []) (77 ∷ 77 ∷ []) (out 0 2 (6 ∷ 2 ∷ []))
    -- a text of two bytes is 17, a blob of two 16, empty ones are 13 and 12
    ∷ learn bytes 4 (body 17 1 2 ∷ body 16 1 2 ∷ body 13 14 0 ∷ body 12 0 0 ∷ []) (77 ∷ 77 ∷ 77 ∷ 77 ∷ []) (out 0 4 (17 ∷ 16 ∷ 13 ∷ 12 ∷ []))
    -- a column that is lost or does not fit counts as NULL, and the real as 7
    ∷ learn bytes 3 (lost ∷ unfit ∷ body 7 5 8 ∷ []) (77 ∷ 77 ∷ 77 ∷ []) (out 0 3 (0 ∷ 0 ∷ 7 ∷ []))
    -- there are as many hints as the longest row has columns, and a rest is not read
    ∷ learn bytes 2 (body 1 0 1 ∷ unused ∷ unused ∷ unused ∷ body 1 0 1 ∷ lost ∷ unfit ∷ []) (77 ∷ 77 ∷ 77 ∷ []) (out 0 2 (1 ∷ 0 ∷ 77 ∷ []))
    -- no entries, or none that is used
    ∷ learn bytes 1 [] (77 ∷ []) (out 0 0 (77 ∷ []))
    ∷ learn bytes 1 (unused ∷ unused ∷ []) (77 ∷ []) (out 0 0 (77 ∷ []))
    -- one hint more than the list takes
    ∷ learn bytes 2 (body 1 0 1 ∷ body 17 1 2 ∷ []) (77 ∷ []) (out 9 1 (1 ∷ []))
    ∷ learn bytes 1 (body 1 0 1 ∷ []) [] (out 9 0 [])
    -- no width, or too wide
    ∷ learn bytes 0 (body 1 0 1 ∷ []) (77 ∷ []) (out 1 0 (77 ∷ []))
    ∷ learn bytes 511 (body 1 0 1 ∷ []) (77 ∷ []) (out 1 0 (77 ∷ []))
    -- a used entry behind an unused one, a length that is not the type's, a body past the slice, a state above 3
    ∷ learn bytes 2 (unused ∷ body 1 0 1 ∷ []) (77 ∷ []) (out 2 0 (77 ∷ []))
    ∷ learn bytes 1 (body 1 0 2 ∷ []) (77 ∷ []) (out 2 0 (77 ∷ []))
    ∷ learn bytes 1 (body 1 14 1 ∷ []) (77 ∷ []) (out 2 0 (77 ∷ []))
    ∷ learn bytes 1 ((4 ∷ 0 ∷ 0 ∷ 0 ∷ []) ∷ []) (77 ∷ []) (out 2 0 (77 ∷ []))
    ∷ []

table : map computed cases ≡ map expected cases
unfolding came cases bytes body unfit lost unused joined out computed expected list_number list_written learn_checks list_left count_fits rows_of rows_in columns_of any_bad gapped bad_rows given given_at column_types hint_of hints_below longest hints_of value_type integer_type width_type count_in better best_of commonest_of bad_within read_entry body_length big_endian twos_complement value_of
table = refl

module _ (s : List ℕ) (width : ℕ) (words old : List ℕ) (fits : count_fits width ≡ true) where
  -- bad rows are refusal 2, however large everything is
  bad_first : bad_rows s (rows_of width words) ≡ true → came s width words old ≡ out 2 0 old
  unfolding came list_number list_written learn_checks list_left
  bad_first bad = simp (fits, bad)

  -- good ones are 3 where the slice is too large or there are too many
  module _ (good : bad_rows s (rows_of width words) ≡ false) where
    too_long_lem : largest_region < length s → came s width words old ≡ out 3 0 old
    unfolding came list_number list_written learn_checks list_left
    too_long_lem h = simp (fits, good, lt-ltb largest_region (length s) h)

    too_many_lem : most_rows < row_count width words → came s width words old ≡ out 3 0 old
    unfolding came list_number list_written learn_checks list_left
    too_many_lem h = simp (fits, good, lt-ltb most_rows (row_count width words) h, or-true)
