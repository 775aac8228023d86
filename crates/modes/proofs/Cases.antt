-- Worked cases as one table that is computed at once: the bytes, the count of columns, and the length of both lists. The slice's first byte has
-- the offset 100.
-- Assumes nothing.
use Prim.Native.Nat.{ℕ}
use mathlib.Core.Path.{◌≡◌, refl}
use mathlib.Core.List.{List, [], ◌∷◌, ◌++◌, map}
use lib.Count.{count_leading_zeros}
use lib.Ieee.{of_bits, round, to_bits}
use lib.ListN.{replicate}
use Rattle.modes.specs.Found.{types_from, column_at, columns_from, end_from}
use Rattle.modes.specs.Modes.{normal_at, headless_in, first_col_missing_in, normal_from, normal_found, headless_found, modes_found, modes_filling}
use Rattle.record.specs.Places.{types_padded}
use Rattle.record.specs.Value.{body_length}
use Rattle.record.specs.Varint.{width_of, varint_from, varint_at}
use Rattle.sheet.specs.Columns.{column_words, unused_words, room_of}
use Rattle.sheet.specs.Filled.{filled_number, filled_written}
use Rattle.sheet.specs.Hits.{rows_answer, rows_left, entries_left}
use Rattle.sheet.specs.Limits.{count_fits}
use Rattle.sheet.specs.Row.{row_words}

record Outcome : Type 0 where
  number : ℕ
  written : ℕ
  rows : List ℕ
  cols : List ℕ

out : ℕ → ℕ → List ℕ → List ℕ → Outcome
out n k r c = record { number = n; written = k; rows = r; cols = c }

data Case : Type 0 where
  carve : List ℕ → ℕ → ℕ → Outcome → Case

computed : Case → Outcome
computed (carve s columns words o) =
    let a = modes_filling s 100 columns (replicate words 7) (replicate words 7) in
    out (filled_number (rows_answer a)) (filled_written (rows_answer a)) (rows_left a) (entries_left a)

expected : Case → Outcome
expected (carve s columns words o) = o

-- a row of each mode, by its offset, the bytes that it takes, and its mark
normal : ℕ → ℕ → ℕ → List ℕ
normal offset consumed padded = offset ∷ consumed ∷ 0 ∷ 0 ∷ 1 ∷ 0 ∷ 0x3f4ccccd ∷ 1 ∷ padded ∷ []

bare : ℕ → ℕ → List ℕ
bare consumed padded = 100 ∷ consumed ∷ 0 ∷ 0 ∷ 1 ∷ 0 ∷ 0x3f000000 ∷ 2 ∷ padded ∷ []

missing : ℕ → ℕ → List ℕ
missing consumed padded = 100 ∷ consumed ∷ 0 ∷ 0 ∷ 1 ∷ 0 ∷ 0x3e99999a ∷ 3 ∷ padded ∷ []

body : ℕ → ℕ → ℕ → List ℕ
body kind start len = 0 ∷ kind ∷ start ∷ len ∷ []

unfit : ℕ → List ℕ
unfit kind = 1 ∷ kind ∷ 0 ∷ 0 ∷ []

lost : List ℕ
lost = 2 ∷ 0 ∷ 0 ∷ 0 ∷ []

unused : List ℕ
unused = 3 ∷ 0 ∷ 0 ∷ 0 ∷ []

left : ℕ → List ℕ
left n = replicate n 7

-- In turn: a row; two rows, one behind the other; the second finds no room. A header's byte that no type takes is passed over, and fewer
-- types than columns leave the rest unused. A text that does not fit and a type 10 move nothing. Too long a header is a row for the other
-- two modes: both, or, of one column, only the first. Two bytes are too few for the first mode. A row is marked for a padded length, for
-- the second of its types, and for one that runs past the header's end, but not for one that is not read; each of the other two for its
-- own types. Then the refusals.
cases : List Case
cases =
    carve (0x03 ∷ 0x01 ∷ 0x17 ∷ 0x2a ∷ 0x68 ∷ 0x69 ∷ 0x70 ∷ 0x69 ∷ 0x6b ∷ []) 2 9 (out 0 1 (normal 100 9 0) (body 1 3 1 ++ body 23 4 5 ++ left 1))
    ∷ carve (0x02 ∷ 0x01 ∷ 0x2a ∷ 0x02 ∷ 0x01 ∷ 0x2b ∷ 9 ∷ []) 1 18 (out 0 2 (normal 100 3 0 ++ normal 103 3 0) (body 1 2 1 ++ body 1 5 1 ++ left 10))
    ∷ carve (0x02 ∷ 0x01 ∷ 0x2a ∷ 0x02 ∷ 0x01 ∷ 0x2b ∷ 9 ∷ []) 1 9 (out 9 1 (normal 100 3 0) (body 1 2 1 ++ left 5))
    ∷ carve (0x03 ∷ 0x01 ∷ 0x08 ∷ 0x2a ∷ []) 1 9 (out 0 1 (normal 100 4 0) (body 1 3 1 ++ left 5))
    ∷ carve (0x02 ∷ 0x01 ∷ 0x2a ∷ []) 3 12 (out 0 1 (normal 100 3 0 ++ left 3) (body 1 2 1 ++ unused ++ unused))
    ∷ carve (0x04 ∷ 0x17 ∷ 0x0a ∷ 0x01 ∷ 0x2a ∷ []) 3 12 (out 0 1 (normal 100 5 0 ++ left 3) (unfit 23 ++ unfit 10 ++ body 1 4 1))
    ∷ carve (0x7f ∷ 0x01 ∷ 0x2a ∷ 0x2b ∷ 0x01 ∷ 0x2c ∷ []) 2 18
    (out 0 2 (bare 3 0 ++ missing 6 0) (unfit 127 ++ body 1 2 1 ++ lost ++ body 1 5 1 ++ left 2))
    ∷ carve (0x7f ∷ 0x01 ∷ 0x2a ∷ 0x2b ∷ 0x01 ∷ 0x2c ∷ []) 1 18 (out 0 1 (bare 1 0 ++ left 9) (unfit 127 ++ left 14))
    ∷ carve (0x01 ∷ 0x2a ∷ []) 1 9 (out 0 1 (bare 2 0) (body 1 1 1 ++ left 5))
    ∷ carve (0x80 ∷ 0x03 ∷ 0x01 ∷ 0x2a ∷ []) 1 9 (out 0 1 (normal 100 4 1) (body 1 3 1 ++ left 5))
    ∷ carve (0x04 ∷ 0x01 ∷ 0x80 ∷ 0x08 ∷ 0x2a ∷ []) 2 9 (out 0 1 (normal 100 5 1) (body 1 4 1 ++ body 8 5 0 ++ left 1))
    ∷ carve (0x02 ∷ 0x80 ∷ 0x01 ∷ []) 1 9 (out 0 1 (normal 100 3 1) (body 1 2 1 ++ left 5))
    ∷ carve (0x04 ∷ 0x01 ∷ 0x80 ∷ 0x08 ∷ 0x2a ∷ []) 1 9 (out 0 1 (normal 100 5 0) (body 1 4 1 ++ left 5))
    ∷ carve (0x80 ∷ 0x7f ∷ 0x01 ∷ 0x2a ∷ 0x08 ∷ []) 2 18
    (out 0 2 (bare 4 1 ++ missing 5 0) (unfit 127 ++ body 1 3 1 ++ lost ++ body 8 5 0 ++ left 2))
    ∷ carve (0x7f ∷ 0x01 ∷ 0x2a ∷ 0x2b ∷ 0x80 ∷ 0x08 ∷ []) 2 18
    (out 0 2 (bare 3 0 ++ missing 6 1) (unfit 127 ++ body 1 2 1 ++ lost ++ body 8 6 0 ++ left 2))
    ∷ carve [] 1 9 (out 0 0 (left 9) (left 9))
    ∷ carve (0x01 ∷ 0x2a ∷ []) 0 9 (out 1 0 (left 9) (left 9))
    ∷ carve (0x01 ∷ 0x2a ∷ []) 511 9 (out 1 0 (left 9) (left 9))
    ∷ carve (0x01 ∷ 0x2a ∷ []) 3 9 (out 9 0 (left 9) (left 9))
    ∷ []

table : map computed cases ≡ map expected cases
unfolding cases computed expected out normal bare missing body unfit lost unused left rows_answer rows_left entries_left modes_found normal_found headless_found normal_from normal_at headless_in first_col_missing_in types_from columns_from column_at end_from varint_at varint_from width_of count_leading_zeros types_padded body_length column_words unused_words room_of count_fits row_words of_bits round to_bits
table = refl
