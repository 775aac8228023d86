-- The rows of free space once more, each with a mark that says of which part of the rules it is, since its words do not (rule 11.13).
-- Assumes nothing.
use Rattle.std.specs.Prelude.{Ok}
use Rattle.std.specs.Prelude.{ℕ, ◌+◌, ◌≡◌, cond, List, [], ◌∷◌, ◌++◌, map, ltb, length}
use Rattle.carving.specs.Calls.{page_spot, SliceAsked, slice_asked, NumberedAsked, numbered_asked}
use Rattle.carving.specs.declared.inner.Carving.{Carving}
use Rattle.cells.specs.Cells.{cells_of, starts_of, cell_hits, rebuilt_from}
use Rattle.gap.specs.Gap.{gap_hits, chain}
use Rattle.hit.specs.declared.inner.Spot.{Spot}
use Rattle.page.specs.Page.{Block, payload_of, start_of, page_of, head_of}
use Rattle.rebuild.specs.declared.rebuilding.Rebuilding.{Rebuilding}
use Rattle.scanlaws.specs.Listed.{zeros}
use Rattle.sheet.specs.Hits.{Hit, rows_of, groups_words, RowOutcome, row_outcome}
use Rattle.sheet.specs.Sheet.{overlay, rows_words}
use Rattle.sheet.specs.declared.filled.Filled.TheVariants.{Done}
use Rattle.starts.specs.Starts.{rebuilt_starts}
use Rattle.tables.specs.Calls.{Asked, asked, OnTables, on_tables}
use Rattle.walk.specs.Carve.{widest, tables_hits}
use Rattle.walk.specs.declared.walk.Walked.TheVariants.{Done as Walked}

-- ---- marks

-- a row of the gap, of a cell, or of a header that is rebuilt
pub data Part : Type 0 where
  gap_row : Hit → Part
  cell_row : Hit → Part
  guess : Hit → Part

-- without its mark
abbrev pub hit_in : Part → Hit
hit_in (gap_row h) = h
hit_in (cell_row h) = h
hit_in (guess h) = h

-- Rule 11.13: without the guesses, in the same order
abbrev pub without_guesses : List Part → List Part
without_guesses [] = []
without_guesses (gap_row h ∷ ps) = gap_row h ∷ without_guesses ps
without_guesses (cell_row h ∷ ps) = cell_row h ∷ without_guesses ps
without_guesses (guess h ∷ ps) = without_guesses ps

-- ---- of a payload, of blocks, of a page and of a leaf: each as its hits are (rules 11.5, 11.6 and 11.8)
abbrev pub payload_parts : Rebuilding → Spot → ℕ → List ℕ → List ℕ → List Part
payload_parts how spot o d hints =
    map cell_row (cell_hits spot (length hints) o (cells_of d hints))
    ++ map guess (rebuilt_from (rebuilt_starts (length d) (length hints)) how spot o (starts_of (cells_of d hints)) d hints 0)

abbrev pub blocks_parts : Rebuilding → List ℕ → List ℕ → Spot → List Block → List Part
blocks_parts how page hints spot [] = []
blocks_parts how page hints spot (b ∷ bs) =
    payload_parts how spot (b.at + 4) (payload_of page b) hints ++ blocks_parts how page hints spot bs

abbrev pub page_parts : Rebuilding → List ℕ → ℕ → List ℕ → Spot → List Part
page_parts how page head hints spot =
    cond (ltb (length page) (head + 8)) []
    (map gap_row (gap_hits page head hints spot) ++ blocks_parts how page hints spot (chain page head))

abbrev pub leaf_parts : Rebuilding → List ℕ → ℕ → ℕ → List ℕ → ℕ → List Part
leaf_parts how db size table hints p = page_parts how (page_of db size p) (head_of p) hints (page_spot (start_of size p) table)

-- Rule 9.13: and of the leaves of tables, in the order of the walks
abbrev pub tabled_parts : Rebuilding → Asked → List Part
tabled_parts how a =
    tables_hits (leaf_parts how a.db a.size) a.db a.size a.roots a.counts a.hints (length a.stack)

-- ---- calls

-- the same call, but for how it carves
abbrev pub sliced_by : Carving → SliceAsked → SliceAsked
sliced_by how a = slice_asked how a.page a.head a.base a.hints a.rows a.cols

abbrev pub numbered_by : Carving → NumberedAsked → NumberedAsked
numbered_by how a = numbered_asked how a.db a.size a.page a.hints a.rows a.cols

abbrev pub tabled_by : Carving → Asked → Asked
tabled_by how a = asked how a.db a.size a.roots a.counts a.hints a.flags a.stack a.rows a.cols

-- what one leaves that has room for all its rows: how many they are, and their words and entries over what the lists held
abbrev pub all_rows : ℕ → List ℕ → List ℕ → List Hit → RowOutcome
all_rows width rows cols hits =
    row_outcome (Ok (Done (length hits))) (overlay (rows_words (rows_of hits)) rows) (overlay (groups_words width hits) cols)

-- and over walks that end, with flags and stack cleared (rule 9.11)
abbrev pub all_tabled : Asked → List Hit → OnTables
all_tabled a hits =
    let left = all_rows (widest a.counts) a.rows a.cols hits in
    on_tables (Ok (Walked (length hits))) (zeros (length a.flags)) (zeros (length a.stack)) left.rows left.cols

-- Rule 11.13: two calls of which one brings guesses and the other does not, if each leaves all its rows
pub record Unguessed {A : Type 0} (all : List Hit → A) (parts : List Part) (guessing plain : A) : Type 0 where
  pub guessing_is : guessing ≡ all (map hit_in parts)
  pub plain_is : plain ≡ all (map hit_in (without_guesses parts))
