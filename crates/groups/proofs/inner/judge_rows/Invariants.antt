-- `groups::inner::judge_rows` meets its contract. The loop's invariant: the rows before index i are judged, and the longest has so many columns.
-- Assumes nothing.
use Rattle.groups.proofs.Judging.{RowsTo}
use Rattle.groups.proofs.inner.judge_rows.Given as goal

abbrev pub invariant-loop-i : goal.invariant-loop-i
invariant-loop-i l = RowsTo l.bytes l.entries l.width l.rows l.i l.most
