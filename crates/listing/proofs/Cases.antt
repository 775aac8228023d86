-- Worked texts as one table that is computed at once: inputs, and all that is printed for them.
-- Assumes nothing.
use Rattle.std.specs.Prelude.{Err, Ok}
use Prim.Native.Nat.{ℕ}
use mathlib.Core.Path.{◌≡◌, refl}
use mathlib.Core.List.{List, [], ◌∷◌, ◌++◌, map}
use lib.Count.{count_leading_zeros}
use lib.ListN.{replicate}
use Rattle.digits.specs.Digits.{decimal_from, decimal, hex_digit, hex8}
use Rattle.listing.specs.Input.{count_of, hints_of, region_of, input_checks}
use Rattle.listing.specs.Part.{row_space, col_space, part_text, part_answer, parts_from, parts_of, rows_sum, read_sum}
use Rattle.listing.specs.Text.{type_text, types_text, numbers_text, line_text, rows_text, heading, totals_line, refusal_line}
use lib.Ieee.{of_int, div, round, to_bits}
use Rattle.record.specs.Places.{varint_places, type_places, types_padded}
use Rattle.record.specs.Value.{body_length, big_endian}
use Rattle.record.specs.Varint.{width_of, varint_from, varint_at}
use Rattle.attempt.specs.Attempt.{header_fits, types_from, bodies_from, judged, attempt_at}
use Rattle.attempt.specs.Hints.{is_integer, is_real, is_text, is_blob, suits}
use Rattle.attempt.specs.Places.{attempt_places}
use Rattle.scan.specs.Scan.{scan_from, scan_asked, scan_answer, scan_rows, scan_cols}
use Rattle.sheet.specs.Columns.{column_words, room_of}
use Rattle.sheet.specs.Confidence.{share}
use Rattle.sheet.specs.Limits.{count_fits, hints_known}
use Rattle.sheet.specs.Row.{row_words}
use Rattle.sheet.specs.Refusal.{first_held, refusal_number}
use Rattle.sheet.specs.Refusal.{Checked}

-- what is printed for an input whose rows are one part
printed_if : List ℕ → Checked → List ℕ
printed_if s (Err r) = refusal_line (refusal_number r)
printed_if s (Ok tt) =
    let parts = parts_of (region_of s) (hints_of s) in
    heading
    ++ part_text (scan_asked (region_of s) (hints_of s) 0 0 (replicate row_space 0) (replicate col_space 0))
    ++ totals_line (rows_sum parts) (read_sum parts)

printed : List ℕ → List ℕ
printed s = printed_if s (first_held (input_checks s))

-- an input, with what must be printed
data Case : Type 0 where
  prints : List ℕ → List ℕ → Case

computed : Case → List ℕ
computed (prints s text) = printed s

expected : Case → List ℕ
expected (prints s text) = text

cases : List Case
cases =
    -- the paper's: `0 9 3F800000 1,23`, `rows 1 read 3`
    prints
    (0 ∷ 2 ∷ 0 ∷ 2 ∷ 3 ∷ 1 ∷ 23 ∷ 42 ∷ 104 ∷ 105 ∷ 112 ∷ 105 ∷ 107 ∷ [])
    (heading ++ 48 ∷ 32 ∷ 57 ∷ 32 ∷ 51 ∷ 70 ∷ 56 ∷ 48 ∷ 48 ∷ 48 ∷ 48 ∷ 48 ∷ 32 ∷ 49 ∷ 44 ∷ 50 ∷ 51 ∷ 10 ∷ 114 ∷ 111 ∷ 119 ∷ 115 ∷ 32 ∷ 49 ∷ 32 ∷ 114 ∷ 101 ∷ 97 ∷ 100 ∷ 32 ∷ 51 ∷ 10 ∷ [])
    -- one of two types suits: `0 9 3F000000 1,23`
    ∷ prints
    (0 ∷ 2 ∷ 0 ∷ 3 ∷ 3 ∷ 1 ∷ 23 ∷ 42 ∷ 104 ∷ 105 ∷ 112 ∷ 105 ∷ 107 ∷ [])
    (heading ++ 48 ∷ 32 ∷ 57 ∷ 32 ∷ 51 ∷ 70 ∷ 48 ∷ 48 ∷ 48 ∷ 48 ∷ 48 ∷ 48 ∷ 32 ∷ 49 ∷ 44 ∷ 50 ∷ 51 ∷ 10 ∷ 114 ∷ 111 ∷ 119 ∷ 115 ∷ 32 ∷ 49 ∷ 32 ∷ 114 ∷ 101 ∷ 97 ∷ 100 ∷ 32 ∷ 51 ∷ 10 ∷ [])
    -- nothing to find
    ∷ prints (0 ∷ 1 ∷ 5 ∷ []) (heading ++ 114 ∷ 111 ∷ 119 ∷ 115 ∷ 32 ∷ 48 ∷ 32 ∷ 114 ∷ 101 ∷ 97 ∷ 100 ∷ 32 ∷ 48 ∷ 10 ∷ [])
    -- `refused 1`: no count, half of one, a count of 0, and one of 511, which has no hints either
    ∷ prints [] (114 ∷ 101 ∷ 102 ∷ 117 ∷ 115 ∷ 101 ∷ 100 ∷ 32 ∷ 49 ∷ 10 ∷ [])
    ∷ prints (2 ∷ []) (114 ∷ 101 ∷ 102 ∷ 117 ∷ 115 ∷ 101 ∷ 100 ∷ 32 ∷ 49 ∷ 10 ∷ [])
    ∷ prints (0 ∷ 0 ∷ 3 ∷ []) (114 ∷ 101 ∷ 102 ∷ 117 ∷ 115 ∷ 101 ∷ 100 ∷ 32 ∷ 49 ∷ 10 ∷ [])
    ∷ prints (1 ∷ 255 ∷ []) (114 ∷ 101 ∷ 102 ∷ 117 ∷ 115 ∷ 101 ∷ 100 ∷ 32 ∷ 49 ∷ 10 ∷ [])
    -- `refused 2`: no hints for 510 columns, one too few for 2, and an unknown one
    ∷ prints (1 ∷ 254 ∷ []) (114 ∷ 101 ∷ 102 ∷ 117 ∷ 115 ∷ 101 ∷ 100 ∷ 32 ∷ 50 ∷ 10 ∷ [])
    ∷ prints (0 ∷ 2 ∷ 0 ∷ []) (114 ∷ 101 ∷ 102 ∷ 117 ∷ 115 ∷ 101 ∷ 100 ∷ 32 ∷ 50 ∷ 10 ∷ [])
    ∷ prints (0 ∷ 1 ∷ 6 ∷ []) (114 ∷ 101 ∷ 102 ∷ 117 ∷ 115 ∷ 101 ∷ 100 ∷ 32 ∷ 50 ∷ 10 ∷ [])
    ∷ []

table : map computed cases ≡ map expected cases
unfolding printed_if printed computed expected cases count_of part_text part_answer parts_from parts_of decimal_from decimal hex_digit hex8 type_text types_text numbers_text line_text rows_text heading totals_line refusal_line of_int div round to_bits varint_places body_length big_endian varint_from varint_at width_of count_leading_zeros types_padded header_fits types_from bodies_from judged attempt_at is_integer is_real is_text is_blob suits type_places attempt_places scan_from scan_answer scan_rows scan_cols column_words room_of share count_fits hints_known row_words
table = refl
