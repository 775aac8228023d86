-- `tables::tables::Carver::carve_each` meets its contract: what the loop has carved are the tables so far (`Tables`).
-- Assumes nothing.
use Rattle.carving.specs.Calls.{leaf_hits}
use Rattle.walk.proofs.Tables.{Tables}
use Rattle.walk.specs.Inner.{depth_of, Keeps}
use Rattle.tables.proofs.tables.Carver.carve_each.Given as goal

abbrev pub invariant-loop-t : goal.invariant-loop-t
invariant-loop-t l = record {
  kept : Keeps l.initial.stack l.stack;
  tables : Tables (leaf_hits l.self.how l.self.db.now l.self.size) l.self.db.now l.self.size l.roots l.counts l.hints (depth_of l.initial.stack) l.initial.sheet l.sheet l.t l.from;
}
