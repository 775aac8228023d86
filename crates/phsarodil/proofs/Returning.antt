-- What a call returns and leaves is what its work promises, as words.
-- Assumes nothing.
use Prim.Native.Nat.{ℕ}
use mathlib.Core.Path.{◌≡◌}
use mathlib.Core.List.{[], ◌∷◌}
use Rattle.phsarodil.specs.Returns.{list_return, filled_list, row_return, filled_rows, attempted_row, scanned_rows, leaves_return, collected_leaves, tables_return, carved_tables}
use Rattle.scan.specs.Scan.{ScanAsked, ScanOutcome, ScansRegion, number_of, written_of, place_of, read_of}
use Rattle.sheet.specs.Filled.{ListFilling, ListOutcome, FillsList, filled_number, filled_written}
use Rattle.sheet.specs.Hits.{RowFilling, RowOutcome, FillsRows}
use Rattle.tables.specs.Calls.{Asked, OnTables, TablesPromises}
use Rattle.walk.specs.Collect.{LeavesAsked, LeavesOutcome, CollectsLeaves, walked_number, walked_written}

module _ (number written : ℕ) where
  pub list_returned : (a : ListFilling) (x : ListOutcome) → FillsList a x → number ≡ filled_number x.answer → written ≡ filled_written x.answer
      → list_return number (written ∷ []) x.list ≡ filled_list a
  unfolding filled_list
  list_returned a x p n w = rw (n, w, p.number, p.written, p.list)

  module _ (a : RowFilling) (x : RowOutcome) (p : FillsRows a x) (n : number ≡ filled_number x.answer) (w : written ≡ filled_written x.answer) where
    pub rows_returned : row_return number (written ∷ []) x.rows x.cols ≡ filled_rows a
    unfolding filled_rows
    rows_returned = rw (n, w, p.number, p.written, p.rows, p.entries)

    pub attempt_returned : row_return number (written ∷ 0 ∷ 0 ∷ []) x.rows x.cols ≡ attempted_row a
    unfolding attempted_row
    attempt_returned = rw (n, w, p.number, p.written, p.rows, p.entries)

  pub leaves_returned : (a : LeavesAsked) (x : LeavesOutcome) → CollectsLeaves a x → number ≡ walked_number x.answer → written ≡ walked_written x.answer
      → leaves_return number (written ∷ []) x.flags x.stack x.leaves ≡ collected_leaves a
  unfolding collected_leaves
  leaves_returned a x p n w = rw (n, w, p.number, p.written, p.flags, p.stack, p.leaves)

  pub tables_returned : (a : Asked) (x : OnTables) → TablesPromises a x → number ≡ walked_number x.answer → written ≡ walked_written x.answer
      → tables_return number (written ∷ []) x.flags x.stack x.rows x.cols ≡ carved_tables a
  unfolding carved_tables
  tables_returned a x p n w = rw (n, w, p.number, p.written, p.flags, p.stack, p.rows, p.entries)

  pub scan_returned : (a : ScanAsked) (x : ScanOutcome) (place count : ℕ) → ScansRegion a x → number ≡ number_of x.answer → written ≡ written_of x.answer
      → place ≡ place_of x.answer → count ≡ read_of x.answer → row_return number (written ∷ place ∷ count ∷ []) x.rows x.cols ≡ scanned_rows a
  unfolding scanned_rows
  scan_returned a x place count p n w e f = rw (n, w, e, f, p.number, p.written, p.place, p.count, p.rows, p.entries)
