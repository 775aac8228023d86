-- `carving::single::fill` meets its contract: the first row is written behind none.
-- Assumes nothing.
use mathlib.Core.Path.{refl}
use borrow.Author.Rules.{rules}
use Rattle.carving.proofs.Callers.{empty_ready, lists_filled}
use Rattle.carving.proofs.single.fill.Goals as goal

pub carve_page-added-requires : goal.carve_page-added-requires
carve_page-added-requires c = record { hints_len_bound = c.requires.narrow; ready = empty_ready _ c.requires c.room-room.ensures refl refl }

pub returns : goal.returns
returns c = lists_filled _ _ _ c.carve_page-added.result _ _ _ c.room-room.ensures refl c.carve_page-added.ensures c.filled.ensures (search rules) (search rules)
