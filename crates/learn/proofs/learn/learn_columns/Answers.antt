-- `learn::learn::learn_columns` meets its contract: so many hints are written as there are columns, or cells.
-- Assumes nothing.
use mathlib.Core.Path.{◌≡◌, refl}
use native.Mathlib.Omega.{arith}
use borrow.Author.Tests.{le-leb, lt-leb}
use Rattle.groups.specs.Rows.{rows_in}
use Rattle.learn.specs.Learn.{hints_below}
use Rattle.learn.proofs.Learning.{hints_laid}
use Rattle.sheet.specs.Filled.{laid}
use Rattle.learn.proofs.learn.learn_columns.Goals as goal
use Rattle.learn.proofs.learn.learn_columns.Goals.{After-put_hints}

-- the hints that fit lie in the list
lie : (c : After-put_hints) →
    c.put_hints.new.types ≡ laid (hints_below c.args.bytes.now c.args.columns (rows_in c.args.rows c.args.width c.args.entries.now)) c.args.types.now
lie c = hints_laid _ _ _ _ c.min.ensures c.put_hints.ensures

pub put_hints-requires : goal.put_hints-requires
put_hints-requires c =
    record { lent = c.requires.lent; columns_le_width = omega (arith, c.requires.columns_le_width); columns_in_bounds = omega arith; kinds_len = refl; tallied = c.counters-table.ensures.clear }

pub returns-then-room-columns : goal.returns-then-room-columns
returns-then-room-columns c = record { value = simp (lt-leb _ _ c.if-room-columns.true); list = lie (goal.at.returns-then-room-columns c).After-put_hints }

pub returns-else-room-columns : goal.returns-else-room-columns
returns-else-room-columns c = record { value = simp (le-leb _ _ c.if-room-columns.false); list = lie (goal.at.returns-else-room-columns c).After-put_hints }
