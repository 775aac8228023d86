-- `tables::tables::Carver::carve_each` meets its contract: what the loop has carved are the tables so far (`Tables`).
-- Assumes nothing.
use Prim.Native.Nat.{◌+◌, ◌-◌, ◌≤◌, ◌<◌}
use mathlib.Core.Path.{◌≡◌}
use native.Mathlib.Nat.{le_trans}
use native.Mathlib.Omega.{arith}
use lib.ListN.{length, get_or, take, drop}
use Rattle.std.proofs.lemmas.Result.{err_from_is_err_and}
use Rattle.carving.proofs.Callers.{part_long}
use Rattle.carving.specs.Calls.{leaf_hits}
use Rattle.hit.proofs.Laws.{space_then}
use Rattle.sheet.specs.Inner.{Adds}
use Rattle.tables.specs.Inner.{told_of}
use Rattle.walk.proofs.Laws.{table_fits, keeps_then, keeps_same}
use Rattle.walk.proofs.Tables.{tables_start, tables_inside, tables_on, tables_done}
use Rattle.walk.specs.Inner.{depth_of}
use Rattle.walk.specs.Walk.{walk, hits_of, overflows}
use Rattle.tables.proofs.Callers.{tables_stop}
use Rattle.tables.proofs.tables.Carver.carve_each.Goals as goal
use Rattle.tables.proofs.tables.Carver.carve_each.Goals.{After-carve_table, In-loop-t}

pub loop-t-init : goal.loop-t-init
loop-t-init c = record { kept = keeps_same _ c.requires.inside; tables = tables_start _ _ _ _ _ _ _ _ c.requires.space.fits }

-- a table is left
under : (c : In-loop-t) → c.loop-t.t < length c.args.counts.now
under c = omega (arith, c.loop-t-test.true, c.requires.tables_fit.alike)

-- and its hints are there
inside : (c : In-loop-t) → c.loop-t.from + get_or c.args.counts.now c.loop-t.t 0 ≤ length c.args.hints.now
inside c = rw c.requires.tables_fit.sums at (tables_inside _ _ _ _ _ _ _ _ _ _ _ c.loop-t.invariant.tables c.loop-t-test.true (under c))

pub carve_table-requires : goal.carve_table-requires
carve_table-requires c =
    let k = table_fits _ _ _ _ _ _ c.requires.tables_fit c.loop-t-test.true in
    let space = space_then _ _ _ _ c.requires.space c.loop-t.invariant.tables.carved in
    record {
      flag_for_each_page = omega (arith, c.requires.flag_for_each_page, c.loop-t.auto.flags);
      table_ready = rw (part_long c.args.hints.now _ _ (inside (goal.at.carve_table-requires c).In-loop-t))
          (record {
            low = c.requires.tables_fit.low;
            high = c.requires.tables_fit.high;
            small = c.requires.tables_fit.small;
            some = k.0;
            few = k.1;
            narrow = le_trans k.2 c.requires.taken_by_mode;
            space = record { narrow = le_trans k.2 space.narrow; room_most = space.room_most; fits = space.fits };
          });
    }

-- what carving the table left
carved : (c : After-carve_table) →
    let w = walk c.args.self.now.db.now c.args.self.now.size (depth_of c.args.stack.now) (get_or c.args.roots.now c.loop-t.t 0) in
    Adds (hits_of (leaf_hits c.args.self.now.how c.args.self.now.db.now c.args.self.now.size c.loop-t.t (take (get_or c.args.counts.now c.loop-t.t 0) (drop c.loop-t.from c.args.hints.now))) w) (overflows w)
    c.loop-t.sheet (told_of c.carve_table.result c.carve_table.new.sheet) c.carve_table.new.sheet
carved c =
    let k = get_or c.args.counts.now c.loop-t.t 0 in
    let e : c.loop-t.from + k - c.loop-t.from ≡ k = omega arith in
    rw (e, c.loop-t.invariant.kept.depth) at c.carve_table.ensures.carved

pub returns-in_err-carve_table-clause-carved : goal.returns-in_err-carve_table-clause-carved
returns-in_err-carve_table-clause-carved c =
    let at = goal.at.returns-in_err-carve_table-clause-carved c in
    let p = err_from_is_err_and c.from_residual.result c.from_residual.ensures.1 in
    rw (p.1, p.2) (tables_stop _ _ _ _ _ _ _ _ _ _ _ c.loop-t.invariant.tables c.loop-t-test.true (under at.In-loop-t) _ _ (rw c.in_err-carve_table.was at (carved at.After-carve_table)))

pub loop-t-preserved : goal.loop-t-preserved
loop-t-preserved c =
    let at = goal.at.loop-t-preserved c in
    record {
      kept = keeps_then _ _ _ c.loop-t.invariant.kept c.in_ok-carve_table.ensures.kept;
      tables = tables_on _ _ _ _ _ _ _ _ _ _ _ c.loop-t.invariant.tables c.loop-t-test.true (under at.In-loop-t) _ (rw c.in_ok-carve_table.was at (carved at.After-carve_table));
    }

pub returns-clause-carved : goal.returns-clause-carved
returns-clause-carved c = tables_done _ _ _ _ _ _ _ _ _ _ _ c.loop-t.invariant.tables c.loop-t-test.false
