-- The values of the rows in a page's free space (rule 4.13): what their columns say, by the bodies' places.
-- Assumes nothing.
use Rattle.std.specs.Prelude.{ℕ, ◌+◌, cond, List, [], ◌∷◌, ◌++◌, ltb, length}
use Rattle.attempt.specs.Values.{row_values}
use Rattle.cells.specs.Values.{payload_values, in_slice}
use Rattle.gap.specs.Gap.{gap_from, has_gap, gap_of, region_run, chain}
use Rattle.page.specs.Page.{Block, payload_of}
use Rattle.rebuild.specs.declared.rebuilding.Rebuilding.{Rebuilding}
use Rattle.record.specs.declared.record.Value.{Value}
use Rattle.scan.specs.Scan.{Run, through, no_room, missed, found}

-- row by row, as `run_hits` has them
abbrev pub rows_values : List ℕ → Run → List (List Value)
rows_values s through = []
rows_values s (no_room o) = []
rows_values s (missed o t) = rows_values s t
rows_values s (found o x t) = row_values s o ∷ rows_values s t

unfoldable pub region_values : List ℕ → List ℕ → List (List Value)
region_values s hints = rows_values s (region_run s hints)

-- said of the gap
unfoldable pub gap_values : List ℕ → ℕ → List ℕ → List (List Value)
gap_values page head hints = cond (has_gap page head) (region_values (gap_of page head) hints) []

-- ---- said of a slice in which the page begins at `start`

-- block by block, as `blocks_hits` has them
abbrev pub blocks_values : Rebuilding → ℕ → List ℕ → List ℕ → List Block → List (List Value)
blocks_values how start page hints [] = []
blocks_values how start page hints (b ∷ bs) =
    in_slice (start + (b.at + 4)) (payload_values how (payload_of page b) hints) ++ blocks_values how start page hints bs

-- Rule 11.8: row by row, as `page_hits` has them
unfoldable pub page_values : Rebuilding → ℕ → List ℕ → ℕ → List ℕ → List (List Value)
page_values how start page head hints =
    cond (ltb (length page) (head + 8)) []
    (in_slice (start + gap_from page head) (gap_values page head hints) ++ blocks_values how start page hints (chain page head))
