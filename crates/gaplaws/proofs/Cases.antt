-- Worked cases, computed: the header places of a gap, and the parts of a page.
-- Assumes nothing.
use Prim.Native.Nat.{ℕ}
use mathlib.Core.Path.{◌≡◌, refl}
use mathlib.Core.List.{List, [], ◌∷◌, ◌++◌, map}
use lib.Count.{count_leading_zeros}
use Rattle.attempt.specs.Attempt.{header_fits, types_from, bodies_from, judged, attempt_at}
use Rattle.attempt.specs.Hints.{is_integer, is_real, is_text, is_blob, suits}
use Rattle.attempt.specs.Places.{attempt_places}
use Rattle.carving.specs.Calls.{slice_spot}
use Rattle.cells.specs.Cells.{cell_at, cells_from, cells_of, rebuilt_from}
use Rattle.gap.specs.Gap.{has_gap, region_hits, gap_hits, chain_ends, chain_from, chain}
use Rattle.gaplaws.specs.GapSheet.{gap_places}
use Rattle.gaplaws.specs.Parts.{Part, gap_row, cell_row, guess, page_parts}
use Rattle.rebuild.specs.Header.{guessed, rebuilt}
use Rattle.rebuild.specs.declared.rebuilding.Rebuilding.{Rebuilding}
use Rattle.rebuild.specs.declared.rebuilding.Rebuilding.TheVariants.{NoGuesses, OneByte, Exact}
use Rattle.record.specs.Places.{varint_places, type_places, types_padded}
use Rattle.record.specs.Value.{body_length, big_endian}
use Rattle.record.specs.Varint.{width_of, varint_from, varint_at}
use Rattle.scan.specs.Scan.{scan_from}

-- a page of one cell whose content starts at `content`: its header, the cell's pointer, and what follows
page : ℕ → List ℕ → List ℕ
page content rest = (0x0d ∷ 0 ∷ 0 ∷ 0 ∷ 1 ∷ 0 ∷ content ∷ 0 ∷ 0 ∷ content ∷ []) ++ rest

-- an integer and a text
row : List ℕ
row = 0x03 ∷ 0x01 ∷ 0x17 ∷ 0x2a ∷ 0x68 ∷ 0x69 ∷ 0x70 ∷ 0x69 ∷ 0x6b ∷ []

-- the row with a 0 before it and two behind it: its header, and the 0; four zeros; a gap that ends at its start
cases : List (List ℕ)
cases = page 22 ((0 ∷ []) ++ row ++ (0 ∷ 0 ∷ [])) ∷ page 14 (0 ∷ 0 ∷ 0 ∷ 0 ∷ []) ∷ page 10 row ∷ []

expected : List (List ℕ)
expected = (10 ∷ 11 ∷ 12 ∷ 13 ∷ []) ∷ (10 ∷ 11 ∷ []) ∷ [] ∷ []

table : map (λ p. gap_places p 0 (0 ∷ 2 ∷ [])) cases ≡ expected
unfolding cases expected page row gap_places has_gap scan_from attempt_at judged bodies_from types_from header_fits suits is_integer is_real is_text is_blob varint_at varint_from width_of count_leading_zeros types_padded body_length big_endian attempt_places varint_places type_places
table = refl

-- ---- parts

-- a mark as a number, and the row's offset
told : Part → List ℕ
told (gap_row h) = 0 ∷ h.row.offset ∷ []
told (cell_row h) = 1 ∷ h.row.offset ∷ []
told (guess h) = 2 ∷ h.row.offset ∷ []

-- the first page, and in the content a freed block with a cell of the row id 7
block : List ℕ
block = 0 ∷ 0 ∷ 0 ∷ 15 ∷ 9 ∷ 7 ∷ row

freed : List ℕ
freed = (0x0d ∷ 0 ∷ 22 ∷ 0 ∷ 1 ∷ 0 ∷ 22 ∷ 0 ∷ 0 ∷ 37 ∷ []) ++ (0 ∷ row) ++ (0 ∷ 0 ∷ []) ++ block

parts : Rebuilding → List Part
parts how = page_parts how freed 0 (0 ∷ 2 ∷ []) (slice_spot 1000)

-- the gap's row, the cell's, and two guesses: the block's bytes from 26 on, and what is behind the header's length at 28
guesses : ◌≡◌ {A = List (List (List ℕ))} (map (λ how. map told (parts how)) (NoGuesses ∷ OneByte ∷ Exact ∷ []))
    (((0 ∷ 1011 ∷ []) ∷ (1 ∷ 1028 ∷ []) ∷ []) ∷ ((0 ∷ 1011 ∷ []) ∷ (1 ∷ 1028 ∷ []) ∷ (2 ∷ 1026 ∷ []) ∷ (2 ∷ 1029 ∷ []) ∷ [])
    ∷ ((0 ∷ 1011 ∷ []) ∷ (1 ∷ 1028 ∷ []) ∷ (2 ∷ 1026 ∷ []) ∷ (2 ∷ 1029 ∷ []) ∷ []) ∷ [])
unfolding told block freed parts row gap_hits region_hits chain chain_from chain_ends has_gap scan_from cells_of cells_from cell_at rebuilt_from rebuilt guessed attempt_at judged bodies_from types_from header_fits suits is_integer is_real is_text is_blob varint_at varint_from width_of count_leading_zeros types_padded body_length big_endian
guesses = refl
