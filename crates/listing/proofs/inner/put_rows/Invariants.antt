-- `listing::inner::put_rows` meets its contract. The loop's invariant: the lines of the first n rows are written.
-- Assumes nothing.
use Rattle.std.specs.Prelude.{◌+◌, ◌*◌, ◌≤◌}
use Rattle.digits.specs.Inner.{Puts}
use Rattle.listing.specs.Inner.{most_line}
use Rattle.listing.specs.Text.{rows_text}
use Rattle.listing.proofs.inner.put_rows.Given as goal

abbrev pub invariant-loop-n : goal.invariant-loop-n
invariant-loop-n l =
    record { put : Puts l.initial.text (rows_text l.rows l.cols l.width l.n) l.text; near : l.text.len ≤ l.initial.text.len + l.n * most_line l.width }
