-- What the calls return and leave that fill lists: the number, the words of `out`, and what each list holds at exit.
-- Assumes nothing.
use Rattle.std.specs.Prelude.{ℕ, List, [], ◌∷◌}
use Rattle.scan.specs.Scan.{ScanAsked, scan_number, scan_written, scan_place, scan_count, scan_rows, scan_cols}
use Rattle.sheet.specs.Filled.{filled_number, filled_written, ListFilling, list_number, list_written, list_left}
use Rattle.sheet.specs.Hits.{RowFilling, rows_number, rows_written, rows_left, entries_left, RowOutcome}
use Rattle.tables.specs.Calls.{Asked, tabled_number, tabled_written, tabled_rows, tabled_cols, tabled_cleared, OnTables}
use Rattle.walk.specs.Collect.{walked_number, walked_written, LeavesAsked, collect_number, collect_written, collect_leaves, collect_cleared}

-- ---- one list
pub record ListReturn : Type 0 where
  pub number : ℕ
  pub out : List ℕ
  pub list : List ℕ

abbrev pub list_return : ℕ → List ℕ → List ℕ → ListReturn
list_return number out list = record { number = number; out = out; list = list }

unfoldable pub filled_list : ListFilling → ListReturn
filled_list a = list_return (list_number a) (list_written a ∷ []) (list_left a)

-- ---- rows and column entries
pub record RowReturn : Type 0 where
  pub number : ℕ
  pub out : List ℕ
  pub rows : List ℕ
  pub cols : List ℕ

abbrev pub row_return : ℕ → List ℕ → List ℕ → List ℕ → RowReturn
row_return number out rows cols = record { number = number; out = out; rows = rows; cols = cols }

-- what the call in Rattle comes to, as C has it
abbrev pub row_return_of : RowOutcome → RowReturn
row_return_of x = row_return (filled_number x.answer) (filled_written x.answer ∷ []) x.rows x.cols

unfoldable pub filled_rows : RowFilling → RowReturn
filled_rows a = row_return (rows_number a) (rows_written a ∷ []) (rows_left a) (entries_left a)

-- one attempt has the words of a scan, with no place and no count
unfoldable pub attempted_row : RowFilling → RowReturn
attempted_row a = row_return (rows_number a) (rows_written a ∷ 0 ∷ 0 ∷ []) (rows_left a) (entries_left a)

-- rows written, the place, header bytes read
unfoldable pub scanned_rows : ScanAsked → RowReturn
scanned_rows a = row_return (scan_number a) (scan_written a ∷ scan_place a ∷ scan_count a ∷ []) (scan_rows a) (scan_cols a)

-- where no way of rebuilding is named, nothing is written
abbrev pub refused_rows : ℕ → List ℕ → List ℕ → RowReturn
refused_rows number rows cols = row_return number (0 ∷ []) rows cols

-- ---- a walk: the leaves of a table
pub record LeavesReturn : Type 0 where
  pub number : ℕ
  pub out : List ℕ
  pub flags : List ℕ
  pub stack : List ℕ
  pub leaves : List ℕ

abbrev pub leaves_return : ℕ → List ℕ → List ℕ → List ℕ → List ℕ → LeavesReturn
leaves_return number out flags stack leaves = record { number = number; out = out; flags = flags; stack = stack; leaves = leaves }

unfoldable pub collected_leaves : LeavesAsked → LeavesReturn
collected_leaves a =
    leaves_return (collect_number a) (collect_written a ∷ []) (collect_cleared a a.flags) (collect_cleared a a.stack) (collect_leaves a)

-- ---- walks: the rows of tables
pub record TablesReturn : Type 0 where
  pub number : ℕ
  pub out : List ℕ
  pub flags : List ℕ
  pub stack : List ℕ
  pub rows : List ℕ
  pub cols : List ℕ

abbrev pub tables_return : ℕ → List ℕ → List ℕ → List ℕ → List ℕ → List ℕ → TablesReturn
tables_return number out flags stack rows cols =
    record { number = number; out = out; flags = flags; stack = stack; rows = rows; cols = cols }

abbrev pub tables_return_of : OnTables → TablesReturn
tables_return_of x = tables_return (walked_number x.answer) (walked_written x.answer ∷ []) x.flags x.stack x.rows x.cols

unfoldable pub carved_tables : Asked → TablesReturn
carved_tables a =
    tables_return (tabled_number a) (tabled_written a ∷ []) (tabled_cleared a a.flags) (tabled_cleared a a.stack)
    (tabled_rows a) (tabled_cols a)

abbrev pub refused_tables : ℕ → List ℕ → List ℕ → List ℕ → List ℕ → TablesReturn
refused_tables number flags stack rows cols = tables_return number (0 ∷ []) flags stack rows cols
