-- Worked cases of the calls over tables, computed at once: the database is that of the crate that carves its pages.
-- Assumes nothing.
use Prim.Native.Nat.{ℕ}
use mathlib.Core.Path.{◌≡◌, refl}
use mathlib.Core.List.{List, [], ◌∷◌, ◌++◌}
use lib.Count.{count_leading_zeros}
use lib.Ieee.{of_bits, of_int, div, mul, round, to_bits}
use lib.ListN.{replicate}
use Rattle.attempt.specs.Attempt.{header_fits, types_from, bodies_from, judged, attempt_at}
use Rattle.attempt.specs.Hints.{is_integer, is_real, is_text, is_blob, suits}
use Rattle.carving.proofs.Cases.{Outcome, out, kept, db}
use Rattle.carving.specs.Calls.{hits_by, leaf_hits}
use Rattle.carving.specs.declared.inner.Carving.TheVariants.{Freeblocks, Gaps}
use Rattle.carving.specs.declared.inner.Carving.{Carving}
use Rattle.freeblock.proofs.Cases.{page, row, pair}
use Rattle.freeblock.specs.Freeblock.{chain_ends, blocks_from, freeblocks, first_from, first_start, block_hits, page_hits}
use Rattle.page.specs.Page.{size_fits, has_page}
use Rattle.rebuild.specs.declared.rebuilding.Rebuilding.TheVariants.{OneByte, Exact}
use Rattle.rebuild.specs.declared.rebuilding.Rebuilding.{Rebuilding}
use Rattle.record.specs.Places.{types_padded}
use Rattle.record.specs.Value.{body_length, big_endian}
use Rattle.record.specs.Varint.{width_of, varint_from, varint_at}
use Rattle.sheet.specs.Columns.{column_words, unused_words, room_of}
use Rattle.sheet.specs.Confidence.{share, freed_share}
use Rattle.sheet.specs.Hits.{rows_left, entries_left}
use Rattle.sheet.specs.Limits.{count_fits, hints_known}
use Rattle.sheet.specs.Row.{row_words}
use Rattle.tables.specs.Calls.{asked, tabled_answer, tabled_rows, tabled_cols}
use Rattle.walk.specs.Carve.{tables_hits, tables_overflow}
use Rattle.walk.specs.Collect.{walked_number, walked_written}
use Rattle.walk.specs.Walk.{child_in, cells_from, kids, push_all, page_done, fresh, marked, popped, walk_from, walk}

-- tables; a group is as wide as the widest
tables : Carving → List ℕ → List ℕ → List ℕ → ℕ → ℕ → ℕ → Outcome
tables how roots counts hints flags depth words =
    let a = asked how db 512 roots counts hints (kept flags) (kept depth) (kept words) (kept words) in
    let answer = tabled_answer a in
    out (walked_number answer) (walked_written answer) (tabled_rows a) (tabled_cols a)

none : List ℕ
none = 3 ∷ 0 ∷ 0 ∷ 0 ∷ []

-- page 0, and the second page
two : ℕ → ℕ → ℕ → Outcome
two flags depth words = tables Freeblocks (0 ∷ 2 ∷ []) (3 ∷ 2 ∷ []) (0 ∷ 0 ∷ 0 ∷ 0 ∷ 2 ∷ []) flags depth words

both : two 2 1 24 ≡ out 0 2 (row 525 4 ++ row 540 4 ++ kept 6) (pair 525 ++ none ++ pair 540 ++ none)
unfolding two tables out kept db none page row pair tabled_answer tabled_rows tabled_cols rows_left entries_left tables_hits tables_overflow walk walk_from popped marked fresh page_done push_all kids cells_from child_in size_fits has_page leaf_hits hits_by page_hits freeblocks blocks_from chain_ends block_hits first_start first_from attempt_at judged bodies_from types_from header_fits suits is_integer is_real is_text is_blob varint_at varint_from width_of count_leading_zeros types_padded body_length big_endian column_words unused_words room_of share freed_share count_fits hints_known row_words of_bits of_int div mul round to_bits
both = refl

few_flags : two 1 1 24 ≡ out 8 0 (kept 24) (kept 24)
unfolding two tables out kept db page tabled_answer tabled_rows tabled_cols rows_left entries_left size_fits room_of count_fits hints_known
few_flags = refl

-- page 0, and the first page: one table of the two is wide
mixed : Rebuilding → Outcome
mixed how = tables (Gaps how) (0 ∷ 1 ∷ []) (3 ∷ 127 ∷ []) (replicate 130 0) 2 1 8

one_too_wide : mixed OneByte ≡ out 1 0 (kept 8) (kept 8)
unfolding mixed tables out kept db page tabled_answer tabled_rows tabled_cols rows_left entries_left
one_too_wide = refl

none_too_wide : mixed Exact ≡ out 0 0 (kept 8) (kept 8)
unfolding mixed tables out kept db page tabled_answer tabled_rows tabled_cols rows_left entries_left tables_hits tables_overflow walk walk_from popped marked fresh page_done push_all kids cells_from child_in size_fits has_page big_endian room_of count_fits hints_known
none_too_wide = refl
