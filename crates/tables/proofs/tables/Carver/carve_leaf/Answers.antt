-- `tables::tables::Carver::carve_leaf` meets its contract: the page is carved where it lies.
-- Assumes nothing.
use Prim.Native.Nat.{◌+◌, ◌≤◌}
use mathlib.Core.Path.{refl}
use native.Mathlib.Omega.{arith}
use lib.ListN.{length}
use Rattle.carving.proofs.Callers.{hits_are, part_long}
use Rattle.page.proofs.Laws.{page_inside}
use Rattle.page.specs.Page.{start_of}
use Rattle.tables.proofs.tables.Carver.carve_leaf.Goals as goal
use Rattle.tables.proofs.tables.Carver.carve_leaf.Goals.{Start}

-- the page lies in the database
inside : (c : Start) → start_of c.args.self.now.size c.args.p + c.args.self.now.size ≤ length c.args.self.now.db.now
inside c = page_inside _ _ _ (omega (arith, c.requires.table_ready.low)) c.requires.page_there.0 c.requires.page_there.1

pub carve_page-requires : goal.carve_page-requires
carve_page-requires c =
    let in' = inside (goal.at.carve_page-requires c).Start in
    record {
      hints_len_bound = c.requires.table_ready.narrow;
      ready = rw (part_long c.args.self.now.db.now _ _ in') (record {
        inside = omega (arith, c.requires.table_ready.small);
        near = omega (arith, c.requires.table_ready.small, c.requires.table_ready.low);
        some = c.requires.table_ready.some;
        few = c.requires.table_ready.few;
        space = c.requires.table_ready.space;
      });
    }

pub returns : goal.returns
returns c = rw (hits_are c.args.self.now.how c.args.self.now.db.now c.args.self.now.size c.args.p c.args.hints.now c.args.table _ _ _ refl refl c.head_of.ensures.value) at c.carve_page.ensures
