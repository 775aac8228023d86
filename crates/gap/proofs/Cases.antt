-- Worked cases as a table that is computed at once.
-- Assumes nothing.
use Prim.Native.Nat.{ℕ, ◌+◌}
use mathlib.Core.Path.{◌≡◌, refl}
use mathlib.Core.Bool.{Bool, true, false}
use mathlib.Core.List.{List, [], ◌∷◌, ◌++◌, map}
use lib.Count.{count_leading_zeros}
use lib.Ieee.{of_bits, of_int, div, mul, round, to_bits, to_unsigned}
use lib.ListN.{length, replicate}
use Rattle.attempt.specs.Attempt.{header_fits, types_from, bodies_from, judged, attempt_at}
use Rattle.attempt.specs.Hints.{is_integer, is_real, is_text, is_blob, suits}
use Rattle.cells.specs.Cells.{cell_at, cells_from, cells_of, rebuilt_from, payload_hits}
use Rattle.gap.specs.Gap.{gap_to, has_gap, region_hits, gap_hits, chain_ends, chain_from, chain, page_hits}
use Rattle.hit.specs.declared.inner.Spot.{Spot}
use Rattle.page.specs.Page.{Block}
use Rattle.rebuild.specs.Header.{guessed, rebuilt}
use Rattle.rebuild.specs.declared.rebuilding.Rebuilding.{Rebuilding}
use Rattle.rebuild.specs.declared.rebuilding.Rebuilding.TheVariants.{OneByte, Exact}
use Rattle.record.specs.Places.{types_padded}
use Rattle.record.specs.Value.{body_length, big_endian}
use Rattle.record.specs.Varint.{width_of, varint_from, varint_at}
use Rattle.scan.specs.Scan.{scan_from}
use Rattle.sheet.specs.Columns.{column_words, unused_words}
use Rattle.sheet.specs.Confidence.{share, rebuilt_share, percent_of}
use Rattle.sheet.specs.Row.{row_words}
use Rattle.sheet.specs.Sheet.{rows_words}
use Rattle.sheet.specs.Hits.{rows_of, groups_words}

-- ---- pages

-- a header of a leaf: its first freeblock, its count of cells and its content start
header : ℕ → ℕ → ℕ → List ℕ
header first cells content = 0x0d ∷ 0 ∷ first ∷ 0 ∷ cells ∷ 0 ∷ content ∷ 0 ∷ []

-- the first four bytes of a block
begins : ℕ → ℕ → List ℕ
begins next size = 0 ∷ next ∷ 0 ∷ size ∷ []

-- at 8 a size below 4, at 16 one past the page, then two blocks; the last goes on to itself
chained : List ℕ
chained = header 8 0 0 ++ begins 16 3 ++ replicate 4 0 ++ begins 24 200 ++ replicate 4 0 ++ begins 32 8 ++ replicate 4 0 ++ begins 32 4

-- a block in the header itself: its size is where the content start and what is behind it stand
in_header : List ℕ
in_header = 0x0d ∷ 0 ∷ 4 ∷ 0 ∷ 0 ∷ 0 ∷ 0 ∷ 4 ∷ []

-- a record, an integer and a text
record9 : List ℕ
record9 = 0x03 ∷ 0x01 ∷ 0x17 ∷ 0x2a ∷ 0x68 ∷ 0x69 ∷ 0x70 ∷ 0x69 ∷ 0x6b ∷ []

-- a gap from 8 to 20 with a record at 9, and a block at 20 with a cell: its length, its row id and the record
rows_in : List ℕ
rows_in = header 20 0 20 ++ (0 ∷ []) ++ record9 ++ (0 ∷ 0 ∷ []) ++ begins 0 15 ++ (9 ∷ 7 ∷ []) ++ record9

-- a block whose bytes are the types of that record, the second of them padded to two bytes, and its bodies
padded : List ℕ
padded = header 8 0 0 ++ begins 0 13 ++ (0x01 ∷ 0x80 ∷ 0x17 ∷ 0x2a ∷ 0x68 ∷ 0x69 ∷ 0x70 ∷ 0x69 ∷ 0x6b ∷ [])

-- ---- cases: whether there is a gap, and where it ends; so many steps of a chain; the blocks of a page; the words of its rows, and of their groups
record Outcome : Type 0 where
  rows : List ℕ
  cols : List ℕ

data Case : Type 0 where
  gap : List ℕ → ℕ → Bool → ℕ → Case
  steps : ℕ → List ℕ → List Block → Case
  blocks : List ℕ → List Block → Case
  on_page : Rebuilding → List ℕ → ℕ → Spot → Outcome → Case

data Answer : Type 0 where
  gapped : Bool → ℕ → Answer
  places : List Block → Answer
  carved : Outcome → Answer

hints : List ℕ
hints = 0 ∷ 2 ∷ []

computed : Case → Answer
computed (gap page head is to) = gapped (has_gap page head) (gap_to page head)
computed (steps k page bs) = places (chain_from k page 8)
computed (blocks page bs) = places (chain page 0)
computed (on_page how page head spot o) =
    let hits = page_hits how page head hints spot in
    carved (record { rows = rows_words (rows_of hits); cols = groups_words (length hints) hits })

expected : Case → Answer
expected (gap page head is to) = gapped is to
expected (steps k page bs) = places bs
expected (blocks page bs) = places bs
expected (on_page how page head spot o) = carved o

block : ℕ → ℕ → Block
block at size = record { at = at; size = size }

spot : ℕ → ℕ → ℕ → Spot
spot base start table = record { base = base; start = start; table = table }

-- offset, bytes, row id, percent, confidence, table and mark of a row
row : ℕ → ℕ → List ℕ → ℕ → ℕ → ℕ → ℕ → List ℕ
row offset consumed id percent confidence table mark = offset ∷ consumed ∷ (id ++ (2 ∷ percent ∷ confidence ∷ table ∷ mark ∷ []))

body : ℕ → ℕ → ℕ → List ℕ
body kind start len = 0 ∷ kind ∷ start ∷ len ∷ []

-- the record's columns, whose bodies begin at o
pair : ℕ → List ℕ
pair o = body 1 o 1 ++ body 23 (o + 1) 5

none : Outcome
none = record { rows = []; cols = [] }

cases : List Case
cases =
    gap (header 0 1 0 ++ replicate 8 1) 0 false 65536
    ∷ gap (header 0 1 10 ++ replicate 8 1) 0 false 10
    ∷ gap (header 0 1 11 ++ replicate 8 1) 0 true 11
    ∷ gap (header 0 1 16 ++ replicate 8 1) 0 true 16
    ∷ gap (header 0 1 17 ++ replicate 8 1) 0 false 17
    ∷ steps 2 chained []
    ∷ steps 3 chained (block 24 8 ∷ [])
    ∷ blocks chained (block 24 8 ∷ block 32 4 ∷ [])
    ∷ blocks in_header (block 4 4 ∷ [])
    ∷ on_page OneByte (header 0 0 16 ++ replicate 8 0) 0 (spot 0 0 0) none
    ∷ on_page OneByte rows_in 28 (spot 0 0 0) none
    ∷ on_page OneByte rows_in 0 (spot 1000 512 3)
    (record {
      rows =
          row 1009 9 (0 ∷ 0 ∷ []) 100 0x3f800000 12 0
          ++ row 1026 9 (1 ∷ 7 ∷ []) 100 0x3f800000 12 0
          ++ row 1024 10 (0 ∷ 0 ∷ []) 45 0x3ee66666 12 0
          ++ row 1027 8 (0 ∷ 0 ∷ []) 90 0x3f666666 12 0;
      cols = pair 524 ++ pair 541 ++ body 9 538 0 ++ body 7 538 8 ++ pair 541;
    })
    ∷ on_page OneByte padded 0 (spot 0 0 0) (record { rows = row 12 8 (0 ∷ 0 ∷ []) 90 0x3f666666 0 1; cols = body 1 14 1 ++ body 23 15 5 })
    ∷ on_page Exact padded 0 (spot 0 0 0) (record { rows = row 12 9 (0 ∷ 0 ∷ []) 90 0x3f666666 0 1; cols = pair 15 })
    ∷ []

table : map computed cases ≡ map expected cases
unfolding cases computed expected header begins chained in_header record9 rows_in padded hints block spot row body pair none has_gap region_hits gap_hits chain_ends chain_from chain page_hits guessed rebuilt cell_at cells_from cells_of rebuilt_from payload_hits scan_from attempt_at judged bodies_from types_from header_fits suits is_integer is_real is_text is_blob varint_at varint_from width_of count_leading_zeros types_padded body_length big_endian column_words unused_words share rebuilt_share percent_of row_words of_bits of_int div mul round to_bits to_unsigned
table = refl
