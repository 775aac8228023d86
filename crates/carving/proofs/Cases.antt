-- Worked cases of the calls, as tables that are computed at once: the page is that of the crate of freeblocks.
-- Assumes nothing.
use Prim.Native.Nat.{ℕ}
use mathlib.Core.Path.{◌≡◌, refl}
use mathlib.Core.List.{List, [], ◌∷◌, ◌++◌, map}
use lib.Count.{count_leading_zeros}
use lib.Ieee.{of_bits, of_int, div, mul, round, to_bits}
use lib.ListN.{replicate}
use Rattle.attempt.specs.Attempt.{header_fits, types_from, bodies_from, judged, attempt_at}
use Rattle.attempt.specs.Hints.{is_integer, is_real, is_text, is_blob, suits}
use Rattle.carving.specs.Calls.{hits_by, leaf_hits, slice_asked, slice_filling, numbered_asked, numbered_filling}
use Rattle.carving.specs.declared.inner.Carving.{Carving}
use Rattle.carving.specs.declared.inner.Carving.TheVariants.{Freeblocks, Gaps, Payload}
use Rattle.freeblock.proofs.Cases.{page, row, pair}
use Rattle.freeblock.specs.Freeblock.{chain_ends, blocks_from, freeblocks, first_from, first_start, block_hits, page_hits}
use Rattle.gap.specs.Gap.{has_gap, gap_hits, chain_from, chain, chain_ends as gap_chain_ends, page_hits as gap_page_hits}
use Rattle.page.specs.Page.{size_fits, has_page}
use Rattle.rebuild.specs.declared.rebuilding.Rebuilding.TheVariants.{OneByte, Exact}
use Rattle.record.specs.Places.{types_padded}
use Rattle.record.specs.Value.{body_length, big_endian}
use Rattle.record.specs.Varint.{width_of, varint_from, varint_at}
use Rattle.sheet.specs.Columns.{column_words, unused_words, room_of}
use Rattle.sheet.specs.Confidence.{share, freed_share}
use Rattle.sheet.specs.Filled.{filled_number, filled_written}
use Rattle.sheet.specs.Hits.{RowFilling, rows_answer, rows_left, entries_left}
use Rattle.sheet.specs.Limits.{count_fits, hints_known}
use Rattle.sheet.specs.Row.{row_words}

pub record Outcome : Type 0 where
  pub number : ℕ
  pub written : ℕ
  pub rows : List ℕ
  pub cols : List ℕ

unfoldable pub out : ℕ → ℕ → List ℕ → List ℕ → Outcome
out n k r c = record { number = n; written = k; rows = r; cols = c }

abbrev outcome_of : RowFilling → Outcome
outcome_of a = out (filled_number (rows_answer a)) (filled_written (rows_answer a)) (rows_left a) (entries_left a)

-- so many words, as they were
unfoldable pub kept : ℕ → List ℕ
kept words = replicate words 7

-- ---- a slice, with the offset 100 of its first byte: hints, the header's place and the length of both lists
data Case : Type 0 where
  slice : Carving → List ℕ → ℕ → ℕ → Outcome → Case

computed : Case → Outcome
computed (slice how hints head words o) =
    let a = slice_asked how page head 100 hints (kept words) (kept words) in
    outcome_of (slice_filling a)

expected : Case → Outcome
expected (slice how hints head words o) = o

-- with the header at 1 there is no chain, and at 100 no header
cases : List Case
cases =
    slice Freeblocks (0 ∷ 2 ∷ []) 0 18 (out 0 2 (row 113 0 ++ row 128 0) (pair 13 ++ pair 28 ++ kept 2))
    ∷ slice Freeblocks (0 ∷ 2 ∷ []) 0 17 (out 9 1 (row 113 0 ++ kept 8) (pair 13 ++ kept 9))
    ∷ slice Freeblocks (0 ∷ 2 ∷ []) 0 8 (out 9 0 (kept 8) (kept 8))
    ∷ slice Freeblocks (0 ∷ 2 ∷ []) 1 8 (out 0 0 (kept 8) (kept 8))
    ∷ slice Freeblocks [] 0 8 (out 1 0 (kept 8) (kept 8))
    ∷ slice Freeblocks (6 ∷ []) 0 8 (out 2 0 (kept 8) (kept 8))
    ∷ slice Freeblocks (replicate 510 0) 1 8 (out 0 0 (kept 8) (kept 8))
    ∷ slice (Gaps OneByte) (replicate 126 0) 100 8 (out 0 0 (kept 8) (kept 8))
    ∷ slice (Gaps OneByte) (replicate 127 0) 100 8 (out 1 0 (kept 8) (kept 8))
    ∷ slice (Payload OneByte) (replicate 127 0) 0 8 (out 1 0 (kept 8) (kept 8))
    ∷ slice (Gaps Exact) (replicate 127 0) 100 8 (out 0 0 (kept 8) (kept 8))
    ∷ slice (Gaps Exact) (replicate 510 0) 100 8 (out 0 0 (kept 8) (kept 8))
    ∷ slice (Gaps Exact) (replicate 511 0) 100 8 (out 1 0 (kept 8) (kept 8))
    ∷ []

table : map computed cases ≡ map expected cases
unfolding cases computed expected kept out page row pair rows_answer rows_left entries_left hits_by gap_page_hits page_hits freeblocks blocks_from chain_ends block_hits first_start first_from attempt_at judged bodies_from types_from header_fits suits is_integer is_real is_text is_blob varint_at varint_from width_of count_leading_zeros types_padded body_length big_endian column_words unused_words room_of share freed_share count_fits hints_known row_words of_bits of_int div mul round to_bits
table = refl

-- ---- a database whose second page this is
unfoldable pub db : List ℕ
db = replicate 512 0 ++ page ++ replicate 475 0

-- its first page, which is all zeros, by its number
first : Carving → ℕ → Outcome
first how columns =
    let hints : List ℕ = replicate columns 0 in
    let a = numbered_asked how db 512 1 hints (kept 8) (kept 8) in
    outcome_of (numbered_filling a)

too_wide_lem : first (Gaps OneByte) 127 ≡ out 1 0 (kept 8) (kept 8)
unfolding first out kept db page rows_answer rows_left entries_left
too_wide_lem = refl

wide_enough : first (Gaps Exact) 127 ≡ out 0 0 (kept 8) (kept 8)
unfolding first out kept db page rows_answer rows_left entries_left leaf_hits hits_by gap_page_hits gap_hits has_gap chain chain_from gap_chain_ends big_endian size_fits has_page room_of count_fits hints_known
wide_enough = refl
