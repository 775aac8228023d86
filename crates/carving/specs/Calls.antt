-- The calls that carve one page, by the way in which it is carved: of a page slice, and of a page by its number (rules 9.14, 10.5, 11.8).
-- Assumes nothing.
use Rattle.std.specs.Prelude.{ℕ, not, List, ◌∷◌, ltb, length}
use Rattle.carving.specs.declared.inner.Carving.{Carving}
use Rattle.carving.specs.declared.inner.Carving.TheVariants.{Freeblocks, Gaps, Payload}
use Rattle.cells.specs.Cells.{payload_hits}
use Rattle.freeblock.specs.Freeblock.{page_hits}
use Rattle.gap.specs.Gap.{page_hits as gap_page_hits}
use Rattle.hit.specs.declared.inner.Spot.{Spot}
use Rattle.page.specs.Page.{start_of, page_of, head_of, page_checks}
use Rattle.rebuild.specs.Header.{most_by}
use Rattle.sheet.specs.Hits.{Hit, RowFilling}
use Rattle.sheet.specs.Limits.{most_columns, count_fits, hints_known}
use Rattle.sheet.specs.Refusal.{Check, first_held}
use Rattle.sheet.specs.Slice.{slice_checks}
use Rattle.sheet.specs.Refusal.{Checked}
use Rattle.sheet.specs.declared.refusal.Refusal.TheVariants.{ColumnCount, Malformed}

-- ---- ways of carving

-- Rule 11.10: the most columns of a table that is carved so
abbrev pub width_by : Carving → ℕ
width_by Freeblocks = most_columns
width_by (Gaps how) = most_by how
width_by (Payload how) = most_by how

-- Rule 11.10: one that is wider is refused before all else
abbrev pub too_wide : Carving → ℕ → Check
too_wide how columns = record { refusal = ColumnCount; holds = ltb (width_by how) columns }

-- what stands on a page whose b-tree header is at `head`: rule 10.4 for the freeblocks, 11.8 for the gap and the blocks behind it, and
-- 11.5, 11.6 and 11.9 for the payload of one block
unfoldable pub hits_by : Carving → List ℕ → ℕ → List ℕ → Spot → List Hit
hits_by Freeblocks page head hints spot = page_hits page head hints spot
hits_by (Gaps how) page head hints spot = gap_page_hits how page head hints spot
hits_by (Payload how) page head hints spot = payload_hits how spot 0 page hints

-- where a page is said to lie: one that is lent by itself has a base, and its entries start in it
abbrev pub slice_spot : ℕ → Spot
slice_spot base = record { base = base; start = 0; table = 0 }

-- of one that begins at `start` in a database offsets and entries are said of the database
abbrev pub page_spot : ℕ → ℕ → Spot
page_spot start table = record { base = start; start = start; table = table }

unfoldable pub leaf_hits : Carving → List ℕ → ℕ → ℕ → List ℕ → ℕ → List Hit
leaf_hits how db size table hints p = hits_by how (page_of db size p) (head_of p) hints (page_spot (start_of size p) table)

-- ---- a slice

-- what a call is asked: how to carve, the slice, where its b-tree header stands, the absolute offset of its first byte, hints, the lists
pub record SliceAsked : Type 0 where
  pub how : Carving
  pub page : List ℕ
  pub head : ℕ
  pub base : ℕ
  pub hints : List ℕ
  pub rows : List ℕ
  pub cols : List ℕ

abbrev pub slice_asked : Carving → List ℕ → ℕ → ℕ → List ℕ → List ℕ → List ℕ → SliceAsked
slice_asked how page head base hints rows cols =
    record { how = how; page = page; head = head; base = base; hints = hints; rows = rows; cols = cols }

-- for a slice of `len` bytes
abbrev pub slice_checks_by : Carving → ℕ → List ℕ → ℕ → List Check
slice_checks_by how len hints base = too_wide how (length hints) ∷ slice_checks len hints base

abbrev pub slice_checked : SliceAsked → Checked
slice_checked a = first_held (slice_checks_by a.how (length a.page) a.hints a.base)

abbrev pub slice_hits : SliceAsked → List Hit
slice_hits a = hits_by a.how a.page a.head a.hints (slice_spot a.base)

abbrev pub slice_filling : SliceAsked → RowFilling
slice_filling a =
    record { checked = slice_checked a; hits = slice_hits a; width = length a.hints; rows = a.rows; cols = a.cols }

-- ---- a page of a database

-- what a call is asked: how to carve, the database, its page size, the page's number, hints, the lists
pub record NumberedAsked : Type 0 where
  pub how : Carving
  pub db : List ℕ
  pub size : ℕ
  pub page : ℕ
  pub hints : List ℕ
  pub rows : List ℕ
  pub cols : List ℕ

abbrev pub numbered_asked : Carving → List ℕ → ℕ → ℕ → List ℕ → List ℕ → List ℕ → NumberedAsked
numbered_asked how db size page hints rows cols =
    record { how = how; db = db; size = size; page = page; hints = hints; rows = rows; cols = cols }

-- in a database of `len` bytes
abbrev pub numbered_checks : ℕ → ℕ → ℕ → List ℕ → List Check
numbered_checks len size p hints =
    record { refusal = ColumnCount; holds = not (count_fits (length hints)) }
    ∷ record { refusal = Malformed; holds = not (hints_known hints) }
    ∷ page_checks len size p

abbrev pub numbered_checks_by : Carving → ℕ → ℕ → ℕ → List ℕ → List Check
numbered_checks_by how len size p hints = too_wide how (length hints) ∷ numbered_checks len size p hints

abbrev pub numbered_checked : NumberedAsked → Checked
numbered_checked a = first_held (numbered_checks_by a.how (length a.db) a.size a.page a.hints)

abbrev pub numbered_hits : NumberedAsked → List Hit
numbered_hits a = leaf_hits a.how a.db a.size 0 a.hints a.page

abbrev pub numbered_filling : NumberedAsked → RowFilling
numbered_filling a =
    record { checked = numbered_checked a; hits = numbered_hits a; width = length a.hints; rows = a.rows; cols = a.cols }
