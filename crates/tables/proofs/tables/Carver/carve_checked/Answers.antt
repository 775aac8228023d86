-- `tables::tables::Carver::carve_checked` meets its contract: there are flags for every page, and room by the widest table.
-- Assumes nothing.
use mathlib.Core.Path.{refl}
use native.Mathlib.Omega.{arith}
use borrow.Author.Rules.{rules}
use Rattle.tables.specs.Calls.{asked}
use Rattle.tables.specs.Inner.{told_of, walked_as, TablesCarved}
use Rattle.tables.proofs.Callers.{empty_space, tables_few, tables_carved, tables_as}
use Rattle.tables.proofs.tables.Carver.carve_checked.Goals as goal
use Rattle.tables.proofs.tables.Carver.carve_checked.Goals.{After-carve_each}

pub returns-then-flags-self : goal.returns-then-flags-self
returns-then-flags-self c = tables_few _ c.if-flags-self.true

pub carve_each-requires : goal.carve_each-requires
carve_each-requires c =
    record {
      taken_by_mode = c.requires.taken_by_mode;
      tables_fit = c.requires.tables_fit;
      flag_for_each_page = c.if-flags-self.false;
      space = empty_space c.args.rows.now c.args.cols.now _ _
          (record { rows_are = refl; cols_are = refl; width_is = c.widest-width.ensures; room_is = rw c.widest-width.ensures at c.room-room.ensures; n_is = refl });
      inside = omega (arith, c.new-stack.ensures.empty);
    }

-- all tables are carved, and what they came to says what is answered
carved : (c : After-carve_each) →
    TablesCarved
    (asked c.args.self.now.how c.args.self.now.db.now c.args.self.now.size c.args.roots.now c.args.counts.now c.args.hints.now
    c.args.flags.now c.args.stack.now c.args.rows.now c.args.cols.now)
    (walked_as c.carve_each.new.sheet.room (told_of c.carve_each.result c.carve_each.new.sheet)) c.carve_each.new.sheet.rows.now c.carve_each.new.sheet.cols.now
carved c =
    tables_carved _ _ c.carve_each.new.sheet _ c.if-flags-self.false
    (record { rows_are = refl; cols_are = refl; width_is = c.widest-width.ensures; room_is = rw c.widest-width.ensures at c.room-room.ensures; n_is = refl })
    (rw c.new-stack.ensures.cells at c.carve_each.ensures.carved)

pub returns-in-Ok : goal.returns-in-Ok
returns-in-Ok c = tables_as _ _ _ _ _ _ (rw c.in-Ok.is at (carved (goal.at.returns-in-Ok c).After-carve_each)) (search rules) (search rules)

pub returns-in-Err-Full : goal.returns-in-Err-Full
returns-in-Err-Full c =
    tables_as _ _ _ _ _ _ (rw (c.in-Err-Full.is, c.in-Err-Full.field-0-is) at (carved (goal.at.returns-in-Err-Full c).After-carve_each)) (search rules) (search rules)

pub returns-in-Err-Overflow : goal.returns-in-Err-Overflow
returns-in-Err-Overflow c =
    tables_as _ _ _ _ _ _ (rw (c.in-Err-Overflow.is, c.in-Err-Overflow.field-0-is) at (carved (goal.at.returns-in-Err-Overflow c).After-carve_each)) (search rules)
    (search rules)
