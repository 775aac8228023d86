-- The values of the rows that the calls write (rule 4.13): what their column entries read as over the lent slice.
-- Assumes nothing.
use Rattle.std.specs.Prelude.{ℕ, ◌+◌, List}
use Rattle.carving.specs.Calls.{SliceAsked, slice_filling, NumberedAsked, numbered_filling}
use Rattle.carving.specs.declared.inner.Carving.{Carving}
use Rattle.carving.specs.declared.inner.Carving.TheVariants.{Freeblocks, Gaps, Payload}
use Rattle.cells.specs.Values.{payload_values, in_slice}
use Rattle.freeblock.specs.Values.{freed_values}
use Rattle.gap.specs.Values.{page_values}
use Rattle.page.specs.Page.{start_of, page_of, head_of}
use Rattle.record.specs.declared.record.Value.{Value}
use Rattle.sheet.specs.Values.{written_values}

-- row by row, as `hits_by` has them, said of a slice in which the page begins at `start`
unfoldable pub values_by : Carving → ℕ → List ℕ → ℕ → List ℕ → List (List Value)
values_by Freeblocks start page head hints = freed_values start page head hints
values_by (Gaps how) start page head hints = page_values how start page head hints
values_by (Payload how) start page head hints = in_slice (start + 0) (payload_values how page hints)

-- a page of a database: said of the database
unfoldable pub leaf_values : Carving → List ℕ → ℕ → List ℕ → ℕ → List (List Value)
leaf_values how db size hints p = values_by how (start_of size p) (page_of db size p) (head_of p) hints

-- those of the rows that a call writes, on a slice, and on a page of a database
unfoldable pub slice_values : SliceAsked → List Value
slice_values a = written_values (slice_filling a) (values_by a.how 0 a.page a.head a.hints)

unfoldable pub numbered_values : NumberedAsked → List Value
numbered_values a = written_values (numbered_filling a) (leaf_values a.how a.db a.size a.hints a.page)
