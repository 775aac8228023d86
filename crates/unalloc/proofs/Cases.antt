-- Worked cases as one table that is computed at once: the bytes, the learned types, and the length of both lists. The region's first byte has the
-- offset 100.
-- Assumes nothing.
use Prim.Native.Nat.{ℕ}
use mathlib.Core.Path.{◌≡◌, refl}
use mathlib.Core.List.{List, [], ◌∷◌, ◌++◌, map}
use lib.Count.{count_leading_zeros}
use lib.Ieee.{of_int, div, round, to_bits}
use lib.ListN.{replicate}
use Rattle.modes.specs.Found.{types_from, column_at, columns_from, end_from}
use Rattle.record.specs.Places.{types_padded}
use Rattle.record.specs.Value.{body_length}
use Rattle.record.specs.Varint.{width_of, varint_from, varint_at}
use Rattle.sheet.specs.Columns.{column_words, unused_words, room_of}
use Rattle.sheet.specs.Confidence.{share}
use Rattle.sheet.specs.Filled.{filled_number, filled_written}
use Rattle.sheet.specs.Hits.{rows_answer, rows_left, entries_left}
use Rattle.sheet.specs.Limits.{count_fits}
use Rattle.sheet.specs.Row.{row_words}
use Rattle.unalloc.specs.Learned.{is_integer, is_text, is_blob, matches, judged, attempt_at, rows_from, rows_found, learned_filling}

record Outcome : Type 0 where
  number : ℕ
  written : ℕ
  rows : List ℕ
  cols : List ℕ

out : ℕ → ℕ → List ℕ → List ℕ → Outcome
out n k r c = record { number = n; written = k; rows = r; cols = c }

data Case : Type 0 where
  carve : List ℕ → List ℕ → ℕ → Outcome → Case

computed : Case → Outcome
computed (carve s ls words o) =
    let a = learned_filling s ls 100 (replicate words 7) (replicate words 7) in
    out (filled_number (rows_answer a)) (filled_written (rows_answer a)) (rows_left a) (entries_left a)

expected : Case → Outcome
expected (carve s ls words o) = o

-- a row by its offset, the bytes that it takes, its percent with the confidence's bits, and its mark
row : ℕ → ℕ → ℕ → ℕ → ℕ → List ℕ
row offset consumed percent bits padded = offset ∷ consumed ∷ 0 ∷ 0 ∷ 3 ∷ percent ∷ bits ∷ 0 ∷ padded ∷ []

body : ℕ → ℕ → ℕ → List ℕ
body kind start len = 0 ∷ kind ∷ start ∷ len ∷ []

unused : List ℕ
unused = 3 ∷ 0 ∷ 0 ∷ 0 ∷ []

left : ℕ → List ℕ
left n = replicate n 7

hipik : List ℕ
hipik = 0x03 ∷ 0x01 ∷ 0x17 ∷ 0x2a ∷ 0x68 ∷ 0x69 ∷ 0x70 ∷ 0x69 ∷ 0x6b ∷ []

-- In turn: both types match, an integer as another integer and a text as another text; a byte stands before the row; one of three matches,
-- which is 33 percent; one of two, with the other column not used; none; a body is cut off; a type 10 has none; the header's last byte is
-- passed over; one of one; a second row finds no room. A row is marked for a padded length, which the row behind it is not, and for a
-- padded type, but not for one that is not read. Then the refusals.
cases : List Case
cases =
    carve hipik (8 ∷ 13 ∷ []) 9 (out 0 1 (row 100 9 100 0x3f800000 0) (body 1 3 1 ++ body 23 4 5 ++ left 1))
    ∷ carve (0xff ∷ hipik) (1 ∷ 23 ∷ []) 9 (out 0 1 (row 101 9 100 0x3f800000 0) (body 1 4 1 ++ body 23 5 5 ++ left 1))
    ∷ carve (0x04 ∷ 0x01 ∷ 0x08 ∷ 0x00 ∷ 0x2a ∷ []) (6 ∷ 13 ∷ 7 ∷ []) 12 (out 0 1 (row 100 5 33 0x3ea8f5c3 0 ++ left 3) (body 1 4 1 ++ body 8 5 0 ++ body 0 5 0))
    ∷ carve (0x02 ∷ 0x01 ∷ 0x2a ∷ []) (1 ∷ 23 ∷ []) 9 (out 0 1 (row 100 3 50 0x3f000000 0) (body 1 2 1 ++ unused ++ left 1))
    ∷ carve hipik (7 ∷ 12 ∷ []) 9 (out 0 0 (left 9) (left 9))
    ∷ carve (0x03 ∷ 0x01 ∷ 0x17 ∷ 0x2a ∷ 0x68 ∷ []) (1 ∷ 23 ∷ []) 9 (out 0 0 (left 9) (left 9))
    ∷ carve (0x03 ∷ 0x01 ∷ 0x0a ∷ 0x2a ∷ []) (1 ∷ 10 ∷ []) 9 (out 0 0 (left 9) (left 9))
    ∷ carve (0x03 ∷ 0x08 ∷ 0x63 ∷ []) (9 ∷ []) 9 (out 0 1 (row 100 3 100 0x3f800000 0) (body 8 3 0 ++ left 5))
    ∷ carve (0x02 ∷ 0x01 ∷ 0x2a ∷ 0x02 ∷ 0x01 ∷ 0x2b ∷ []) (1 ∷ []) 18 (out 0 2 (row 100 3 100 0x3f800000 0 ++ row 103 3 100 0x3f800000 0) (body 1 2 1 ++ body 1 5 1 ++ left 10))
    ∷ carve (0x02 ∷ 0x01 ∷ 0x2a ∷ 0x02 ∷ 0x01 ∷ 0x2b ∷ []) (1 ∷ []) 9 (out 9 1 (row 100 3 100 0x3f800000 0) (body 1 2 1 ++ left 5))
    ∷ carve (0x80 ∷ 0x03 ∷ 0x01 ∷ 0x2a ∷ 0x02 ∷ 0x01 ∷ 0x2b ∷ []) (1 ∷ []) 18 (out 0 2 (row 100 4 100 0x3f800000 1 ++ row 104 3 100 0x3f800000 0) (body 1 3 1 ++ body 1 6 1 ++ left 10))
    ∷ carve (0x04 ∷ 0x01 ∷ 0x80 ∷ 0x08 ∷ 0x2a ∷ []) (1 ∷ 8 ∷ []) 9 (out 0 1 (row 100 5 100 0x3f800000 1) (body 1 4 1 ++ body 8 5 0 ++ left 1))
    ∷ carve (0x04 ∷ 0x01 ∷ 0x80 ∷ 0x08 ∷ 0x2a ∷ []) (1 ∷ []) 9 (out 0 1 (row 100 5 100 0x3f800000 0) (body 1 4 1 ++ left 5))
    ∷ carve [] (1 ∷ []) 9 (out 0 0 (left 9) (left 9))
    ∷ carve hipik [] 9 (out 1 0 (left 9) (left 9))
    ∷ carve hipik (replicate 511 1) 9 (out 1 0 (left 9) (left 9))
    ∷ []

table : map computed cases ≡ map expected cases
unfolding cases computed expected out row body unused left hipik rows_answer rows_left entries_left rows_found rows_from attempt_at judged matches is_integer is_text is_blob types_from columns_from column_at end_from varint_at varint_from width_of count_leading_zeros types_padded body_length column_words unused_words room_of share count_fits row_words of_int div round to_bits
table = refl
