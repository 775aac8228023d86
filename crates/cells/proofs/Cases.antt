-- Worked cases as a table that is computed at once. The record has nine bytes, for the hints Integer and Text: its header's length, the types
-- 1 and 23, and their bodies.
-- Assumes nothing.
use Prim.Native.Nat.{ℕ, ◌+◌}
use mathlib.Core.Path.{◌≡◌, refl}
use mathlib.Core.List.{List, [], ◌∷◌, ◌++◌, map}
use lib.Count.{count_leading_zeros}
use lib.Ieee.{of_bits, of_int, div, mul, round, to_bits, to_unsigned}
use lib.ListN.{replicate}
use Rattle.attempt.specs.Attempt.{header_fits, types_from, bodies_from, judged, attempt_at}
use Rattle.attempt.specs.Hints.{is_integer, is_real, is_text, is_blob, suits}
use Rattle.cells.specs.Cells.{cell_at, cells_from, cells_of, rebuilt_from, payload_hits}
use Rattle.hit.specs.declared.inner.Spot.{Spot}
use Rattle.rebuild.specs.Header.{guessed, rebuilt}
use Rattle.rebuild.specs.declared.rebuilding.Rebuilding.TheVariants.{OneByte}
use Rattle.record.specs.Places.{types_padded}
use Rattle.record.specs.Value.{body_length}
use Rattle.record.specs.Varint.{width_of, varint_from, varint_at}
use Rattle.sheet.specs.Columns.{column_words, unused_words}
use Rattle.sheet.specs.Confidence.{share, rebuilt_share, percent_of}
use Rattle.sheet.specs.Row.{row_words}
use Rattle.sheet.specs.Sheet.{rows_words}
use Rattle.sheet.specs.Hits.{rows_of, groups_words}

types : List ℕ
types = 0x01 ∷ 0x17 ∷ 0x2a ∷ 0x68 ∷ 0x69 ∷ 0x70 ∷ 0x69 ∷ 0x6b ∷ []

-- a cell whose row id is id
cell : ℕ → List ℕ
cell id = 9 ∷ id ∷ 3 ∷ types

-- the words of the rows that are found, and of their groups
record Outcome : Type 0 where
  rows : List ℕ
  cols : List ℕ

-- a cell's row; and one that is rebuilt, where both types suit, and where one does; each with its mark
cell_row : ℕ → ℕ → ℕ → ℕ → ℕ → List ℕ
cell_row offset consumed id word padded = offset ∷ consumed ∷ 1 ∷ id ∷ 2 ∷ 100 ∷ 0x3f800000 ∷ word ∷ padded ∷ []

both_suit : ℕ → ℕ → ℕ → ℕ → List ℕ
both_suit offset consumed word padded = offset ∷ consumed ∷ 0 ∷ 0 ∷ 2 ∷ 90 ∷ 0x3f666666 ∷ word ∷ padded ∷ []

one_suits : ℕ → ℕ → ℕ → ℕ → List ℕ
one_suits offset consumed word padded = offset ∷ consumed ∷ 0 ∷ 0 ∷ 2 ∷ 45 ∷ 0x3ee66666 ∷ word ∷ padded ∷ []

-- two entries: a type and its length each, from a start on
pair : ℕ → ℕ → ℕ → ℕ → ℕ → List ℕ
pair start t n t' n' = 0 ∷ t ∷ start ∷ n ∷ 0 ∷ t' ∷ (start + n) ∷ n' ∷ []

-- ---- a payload that stands at 12 in its page
data Case : Type 0 where
  in_payload : List ℕ → Spot → Outcome → Case

computed : Case → Outcome
computed (in_payload d spot out) =
    let hits = payload_hits OneByte spot 12 d (0 ∷ 2 ∷ []) in
    record { rows = rows_words (rows_of hits); cols = groups_words 2 hits }

expected : Case → Outcome
expected (in_payload d spot out) = out

spot : ℕ → ℕ → ℕ → Spot
spot base start table = record { base = base; start = start; table = table }

-- A cell, whose row has its id; the start 2, where its record begins, is passed over, and the starts 0 and 3 are not. Two cells, one behind the
-- other. A record without its header's length. A cell in the record of another, which is none. A
-- length of 2 ^ 64 - 1, which does not fit. A cell whose length and row id are padded, which its row does not say, and one whose first type
-- is, which it does.
cases : List Case
cases =
    in_payload (cell 7) (spot 100 0 0)
    (record {
      rows = cell_row 114 9 7 0 0 ++ one_suits 112 10 0 0 ++ both_suit 115 8 0 0;
      cols = pair 17 1 1 23 5 ++ pair 14 9 0 7 8 ++ pair 17 1 1 23 5;
    })
    ∷ in_payload (cell 7 ++ cell 8) (spot 100 512 3)
    (record {
      rows = cell_row 114 9 7 12 0 ++ cell_row 125 9 8 12 0 ++ one_suits 112 10 12 0 ++ both_suit 115 8 12 0 ++ one_suits 123 2 12 0 ++ one_suits 124 5 12 0 ++ both_suit 126 8 12 0;
      cols =
          pair 529 1 1 23 5 ++ pair 540 1 1 23 5 ++ pair 526 9 0 7 8 ++ pair 529 1 1 23 5 ++ pair 537 9 0 8 0 ++ pair 538 8 0 3 3 ++ pair 540 1 1 23 5;
    })
    ∷ in_payload types (spot 100 0 0) (record { rows = both_suit 112 8 0 0; cols = pair 14 1 1 23 5 })
    ∷ in_payload (14 ∷ 5 ∷ 3 ∷ 8 ∷ 35 ∷ cell 8) (spot 100 0 0)
    (record {
      rows = cell_row 114 14 5 0 0 ++ one_suits 113 11 0 0 ++ both_suit 115 13 0 0 ++ one_suits 117 2 0 0 ++ one_suits 118 5 0 0 ++ one_suits 119 6 0 0 ++ both_suit 120 8 0 0;
      cols =
          pair 17 8 0 35 11 ++ pair 15 5 6 3 3 ++ pair 17 8 0 35 11 ++ pair 19 9 0 8 0 ++ pair 20 8 0 3 3 ++ pair 21 3 3 1 1 ++ pair 22 1 1 23 5;
    })
    ∷ in_payload (replicate 9 0xff ++ 7 ∷ 3 ∷ types) (spot 100 0 0)
    (record { rows = one_suits 122 6 0 0 ++ both_suit 123 8 0 0; cols = pair 24 3 3 1 1 ++ pair 25 1 1 23 5 })
    ∷ in_payload (0x80 ∷ 9 ∷ 0x80 ∷ 7 ∷ 3 ∷ types) (spot 100 0 0)
    (record {
      rows = cell_row 116 9 7 0 0 ++ one_suits 113 10 0 1 ++ both_suit 117 8 0 0;
      cols = pair 19 1 1 23 5 ++ pair 15 9 0 7 8 ++ pair 19 1 1 23 5;
    })
    ∷ in_payload (10 ∷ 7 ∷ 4 ∷ 0x80 ∷ types) (spot 100 0 0)
    (record { rows = cell_row 114 10 7 0 1 ++ both_suit 116 8 0 0; cols = pair 18 1 1 23 5 ++ pair 18 1 1 23 5 })
    ∷ []

table : map computed cases ≡ map expected cases
unfolding cases computed expected spot types cell cell_row both_suit one_suits pair payload_hits cells_of cells_from cell_at rebuilt_from rebuilt guessed attempt_at judged bodies_from types_from header_fits suits is_integer is_real is_text is_blob varint_at varint_from width_of count_leading_zeros types_padded body_length column_words unused_words share rebuilt_share percent_of row_words of_bits of_int div mul round to_bits to_unsigned
table = refl
