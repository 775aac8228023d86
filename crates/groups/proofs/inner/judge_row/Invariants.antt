-- `groups::inner::judge_row` meets its contract. The loop's invariant: the entries before index i are judged, and n of them are used.
-- Assumes nothing.
use Rattle.groups.proofs.Judging.{RowTo}
use Rattle.groups.proofs.inner.judge_row.Given as goal

abbrev pub invariant-loop-i : goal.invariant-loop-i
invariant-loop-i l = RowTo l.bytes l.entries l.from l.width l.i l.n
