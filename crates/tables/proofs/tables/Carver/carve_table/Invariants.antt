-- `tables::tables::Carver::carve_table` meets its contract: what the loop has carved are the leaves so far (`Leaves`).
-- Assumes nothing.
use Prim.Native.Nat.{◌/◌}
use lib.ListN.{length}
use Rattle.carving.specs.Calls.{leaf_hits}
use Rattle.walk.proofs.Tables.{Leaves}
use Rattle.walk.specs.Inner.{need, depth_of, Keeps}
use Rattle.walk.specs.Walk.{walk}
use Rattle.tables.proofs.tables.Carver.carve_table.Given as goal

abbrev pub invariant-loop-page : goal.invariant-loop-page
invariant-loop-page l = record {
  kept : Keeps l.initial.stack l.stack;
  leaves : Leaves (leaf_hits l.self.how l.self.db.now l.self.size l.table l.hints) (walk l.self.db.now l.self.size (depth_of l.initial.stack) l.root) l.self.db.now l.self.size (depth_of l.initial.stack) (length l.initial.flags)
      l.initial.sheet l.flags l.stack.pages.now l.stack.top l.sheet;
}

abbrev pub decreases-loop-page : goal.decreases-loop-page
decreases-loop-page l = need (length l.self.db.now / l.self.size) (depth_of l.stack) l.flags l.stack.top
