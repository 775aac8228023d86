-- `scan::schema_sig::put_found` meets its contract: the row, then its group.
-- Assumes nothing.
use Rattle.std.specs.Prelude.{refl}
use native.Mathlib.Nat.{zero-add}
use Rattle.scan.proofs.schema_sig.put_found.Goals as goal

pub returns : goal.returns
returns c =
    record {
      lists = record { rows_kept = refl; cols_kept = refl };
      width_is = refl;
      room_is = refl;
      n_is = refl;
      rows_are = rw c.suited_share.ensures at c.put_row.ensures;
      cols_are = rw zero-add at c.put_columns.ensures;
    }
