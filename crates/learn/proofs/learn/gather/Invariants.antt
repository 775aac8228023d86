-- `learn::learn::gather` meets its contract. The loop's invariant: the types of the rows before index i are written.
-- Assumes nothing.
use Rattle.learn.proofs.Columns.{Gathered}
use Rattle.learn.proofs.learn.gather.Given as goal

abbrev pub invariant-loop-i : goal.invariant-loop-i
invariant-loop-i l = Gathered l.bytes l.entries l.width l.rows l.column l.i l.n l.kinds
