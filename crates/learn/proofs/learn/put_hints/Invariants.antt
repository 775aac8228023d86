-- `learn::learn::put_hints` meets its contract. The loop's invariant: the hints of the first c columns are written, and the table is clear.
-- Assumes nothing.
use mathlib.Core.List.{[]}
use Rattle.groups.specs.Rows.{rows_in}
use Rattle.learn.specs.Inner.{Tallied}
use Rattle.learn.proofs.Learning.{PutTo}
use Rattle.learn.proofs.learn.put_hints.Given as goal

abbrev pub invariant-loop-c : goal.invariant-loop-c
invariant-loop-c l =
    Tallied l.table [] × PutTo l.bytes (rows_in l.rows l.width l.entries) l.columns l.initial.types l.c l.types
