-- All of document 01's cases marked P, as one table that is computed at once: those on varints and values, and those on rows, counts and offsets.
-- Assumes nothing.
use Rattle.std.specs.Prelude.{Result, Ok}
use Prim.Native.Nat.{ℕ, ◌+◌}
use mathlib.Core.Path.{◌≡◌, refl}
use mathlib.Core.List.{List, [], ◌∷◌, ◌++◌, map}
use lib.Count.{count_leading_zeros}
use lib.ListN.{replicate}
use lib.Ieee.{of_bits, of_int, div, round, to_bits}
use Rattle.record.proofs.Cases.{Case as Below, Answer as BelowAnswer, marked, words, computed as computedBelow, expected as expectedBelow}
use Rattle.record.specs.Places.{varint_places, type_places, types_padded}
use Rattle.record.specs.Value.{body_length, big_endian, twos_complement, value_of, body_fits, decode_at}
use Rattle.record.specs.Varint.{width_of, varint_from, varint_at, read_varint}
use Rattle.attempt.specs.Attempt.{header_fits, types_from, bodies_from, judged, attempt_at}
use Rattle.attempt.specs.Hints.{is_integer, is_real, is_text, is_blob, suits}
use Rattle.attempt.specs.Places.{attempt_places}
use Rattle.scan.specs.Scan.{done, scan_from, scan_asked, scan_answer, scan_rows, scan_cols}
use Rattle.scan.specs.declared.schema_sig.Scanned.{Scanned}
use Rattle.sheet.specs.declared.refusal.Refusal.{Refusal}
use Rattle.sheet.specs.Columns.{column_words, room_of}
use Rattle.sheet.specs.Confidence.{share}
use Rattle.sheet.specs.Limits.{count_fits, hints_known}
use Rattle.sheet.specs.Row.{row_words}

-- a region that is scanned from 0 with two rows' room in each list, and what comes of it: the answer, the rows and the entries that are written
data Case : Type 0 where
  below : Below → Case
  scan : List ℕ → List ℕ → Result Scanned Refusal → List ℕ → List ℕ → Case

data Answer : Type 0 where
  plain : BelowAnswer → Answer
  left : Result Scanned Refusal → List ℕ → List ℕ → Answer

expected : Case → Answer
expected (below c) = plain (expectedBelow c)
expected (scan hints s answer rows cols) = left answer rows cols

computed : Case → Answer
computed (below c) = plain (computedBelow c)
computed (scan hints s answer rows cols) =
    let a = scan_asked s hints 0 0 (replicate 18 0) (replicate 16 0) in
    left (scan_answer a) (scan_rows a) (scan_cols a)

-- nothing is written
unwritten : List ℕ
unwritten = replicate 18 0

nothing : List ℕ
nothing = replicate 16 0

-- a row with confidence 1, whether a number of its header is padded, and no other
only : ℕ → ℕ → ℕ → List ℕ
only offset consumed padded = offset ∷ consumed ∷ 0 ∷ 0 ∷ 0 ∷ 0 ∷ 0x3f800000 ∷ 0 ∷ padded ∷ replicate 9 0

-- an integer of one byte, then a text of five
pair : ℕ → List ℕ
pair start = 0 ∷ 1 ∷ start ∷ 1 ∷ 0 ∷ 23 ∷ (start + 1) ∷ 5 ∷ replicate 8 0

hipik : List ℕ
hipik = 0x68 ∷ 0x69 ∷ 0x70 ∷ 0x69 ∷ 0x6b ∷ []

scans : List Case
scans =
    scan (0 ∷ 2 ∷ []) (0x03 ∷ 0x01 ∷ 0x17 ∷ 0x2a ∷ hipik) (Ok (done 1 9 3)) (only 0 9 0) (pair 3)
    ∷ scan (0 ∷ 2 ∷ []) (0x03 ∷ 0x01 ∷ 0x17 ∷ 0x2a ∷ 0x68 ∷ 0x69 ∷ 0x70 ∷ 0x69 ∷ []) (Ok (done 0 8 8)) unwritten nothing
    ∷ scan (0 ∷ []) (0x02 ∷ 0x80 ∷ 0x08 ∷ []) (Ok (done 1 3 3)) (only 0 2 1) (0 ∷ 8 ∷ 2 ∷ 0 ∷ replicate 12 0)
    ∷ scan (0 ∷ 2 ∷ []) (0x05 ∷ 0x03 ∷ 0x01 ∷ 0x17 ∷ 0x2a ∷ hipik) (Ok (done 1 10 8)) (only 1 9 0) (pair 4)
    ∷ scan (0 ∷ 2 ∷ []) (0x05 ∷ 0x03 ∷ 0x01 ∷ 0x17 ∷ 0xaa ∷ hipik) (Ok (done 1 10 9)) (only 1 9 0) (pair 4)
    ∷ []

-- the same row with its header's length in two bytes, then with its first type in two
paddings : List Case
paddings =
    scan (0 ∷ 2 ∷ []) (0x80 ∷ 0x04 ∷ 0x01 ∷ 0x17 ∷ 0x2a ∷ hipik) (Ok (done 1 10 4)) (only 0 10 1) (pair 4)
    ∷ scan (0 ∷ 2 ∷ []) (0x04 ∷ 0x80 ∷ 0x01 ∷ 0x17 ∷ 0x2a ∷ hipik) (Ok (done 1 10 4)) (only 0 10 1) (pair 4)
    ∷ []

cases : List Case
cases = map below marked ++ scans ++ paddings

table : map computed cases ≡ map expected cases
unfolding cases scans paddings only pair unwritten nothing hipik computed expected computedBelow expectedBelow marked words read_varint varint_at varint_from width_of count_leading_zeros types_padded decode_at body_fits body_length value_of twos_complement big_endian of_bits varint_places header_fits types_from bodies_from judged attempt_at is_integer is_real is_text is_blob suits type_places attempt_places scan_from scan_answer scan_rows scan_cols column_words room_of share count_fits hints_known row_words of_int div round to_bits
table = refl
