-- Worked cases as a table that is computed at once. The page, which the calls' cases take too: block 8 goes on to block 24 and has a byte before its row; block 24 has its
-- row at the start, and goes back to block 8, where the chain ends.
-- Assumes nothing.
use Prim.Native.Nat.{ℕ, ◌+◌}
use mathlib.Core.Path.{◌≡◌, refl}
use mathlib.Core.List.{List, [], ◌∷◌, ◌++◌, map}
use lib.Count.{count_leading_zeros}
use lib.Ieee.{of_bits, of_int, div, mul, round, to_bits}
use lib.ListN.{length}
use Rattle.attempt.specs.Attempt.{header_fits, types_from, bodies_from, judged, attempt_at}
use Rattle.attempt.specs.Hints.{is_integer, is_real, is_text, is_blob, suits}
use Rattle.freeblock.specs.Freeblock.{chain_ends, blocks_from, freeblocks, first_from, first_start, block_hits, page_hits}
use Rattle.hit.specs.declared.inner.Spot.{Spot}
use Rattle.record.specs.Places.{types_padded}
use Rattle.record.specs.Value.{body_length, big_endian}
use Rattle.record.specs.Varint.{width_of, varint_from, varint_at}
use Rattle.sheet.specs.Columns.{column_words, unused_words}
use Rattle.sheet.specs.Confidence.{share, freed_share}
use Rattle.sheet.specs.Row.{row_words}
use Rattle.sheet.specs.Sheet.{rows_words}
use Rattle.sheet.specs.Hits.{rows_of, groups_words}

-- the words of the rows that are found, and of their groups
record Outcome : Type 0 where
  rows : List ℕ
  cols : List ℕ

unfoldable pub page : List ℕ
page =
    (0x0d ∷ 0 ∷ 8 ∷ 0 ∷ 0 ∷ 0 ∷ 0 ∷ 0 ∷ [])
    ++ (0 ∷ 24 ∷ 0 ∷ 16 ∷ 0xff ∷ 0x03 ∷ 0x01 ∷ 0x17 ∷ 0x2a ∷ 0x68 ∷ 0x69 ∷ 0x70 ∷ 0x69 ∷ 0x6b ∷ 0 ∷ 0 ∷ [])
    ++ (0 ∷ 8 ∷ 0 ∷ 13 ∷ 0x03 ∷ 0x01 ∷ 0x17 ∷ 0x2b ∷ 0x68 ∷ 0x65 ∷ 0x6c ∷ 0x6c ∷ 0x6f ∷ [])

-- one block, whose row has its first type in two bytes
padded_page : List ℕ
padded_page =
    (0x0d ∷ 0 ∷ 8 ∷ 0 ∷ 0 ∷ 0 ∷ 0 ∷ 0 ∷ [])
    ++ (0 ∷ 0 ∷ 0 ∷ 14 ∷ 0x04 ∷ 0x80 ∷ 0x01 ∷ 0x17 ∷ 0x2a ∷ 0x68 ∷ 0x69 ∷ 0x70 ∷ 0x69 ∷ 0x6b ∷ [])

-- a row of 9 bytes whose confidence is 0.6, and its entries
unfoldable pub row : ℕ → ℕ → List ℕ
row offset table = offset ∷ 9 ∷ 0 ∷ 0 ∷ 1 ∷ 0 ∷ 0x3f19999a ∷ table ∷ 0 ∷ []

-- and one of 10, of which a number is padded
padded_row : ℕ → List ℕ
padded_row offset = offset ∷ 10 ∷ 0 ∷ 0 ∷ 1 ∷ 0 ∷ 0x3f19999a ∷ 0 ∷ 1 ∷ []

unfoldable pub pair : ℕ → List ℕ
pair o = 0 ∷ 1 ∷ (o + 3) ∷ 1 ∷ 0 ∷ 23 ∷ (o + 4) ∷ 5 ∷ []

-- ---- a page, hints, the header's place, and the page's own: with the header at 1 the first freeblock is 2048; at 100 there is no header
data Case : Type 0 where
  on_page : List ℕ → List ℕ → ℕ → Spot → Outcome → Case

computed : Case → Outcome
computed (on_page page hints head spot o) =
    let hits = page_hits page head hints spot in
    record { rows = rows_words (rows_of hits); cols = groups_words (length hints) hits }

expected : Case → Outcome
expected (on_page page hints head spot o) = o

spot : ℕ → ℕ → ℕ → Spot
spot base start table = record { base = base; start = start; table = table }

cases : List Case
cases =
    on_page page (0 ∷ 2 ∷ []) 0 (spot 100 0 0) (record { rows = row 113 0 ++ row 128 0; cols = pair 13 ++ pair 28 })
    ∷ on_page page (0 ∷ 2 ∷ []) 0 (spot 100 512 3) (record { rows = row 113 12 ++ row 128 12; cols = pair 525 ++ pair 540 })
    ∷ on_page page (0 ∷ 0 ∷ 0 ∷ []) 0 (spot 0 0 0) (record { rows = []; cols = [] })
    ∷ on_page page (0 ∷ 2 ∷ []) 1 (spot 0 0 0) (record { rows = []; cols = [] })
    ∷ on_page page (0 ∷ 2 ∷ []) 100 (spot 0 0 0) (record { rows = []; cols = [] })
    ∷ on_page padded_page (0 ∷ 2 ∷ []) 0 (spot 100 0 0) (record { rows = padded_row 112; cols = pair 13 })
    ∷ []

table : map computed cases ≡ map expected cases
unfolding cases computed expected spot page padded_page row padded_row pair page_hits freeblocks blocks_from chain_ends block_hits first_start first_from attempt_at judged bodies_from types_from header_fits suits is_integer is_real is_text is_blob varint_at varint_from width_of count_leading_zeros types_padded body_length big_endian column_words unused_words share freed_share row_words of_bits of_int div mul round to_bits
table = refl
