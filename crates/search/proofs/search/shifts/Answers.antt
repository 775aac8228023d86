-- `search::search::shifts` meets its contract.
-- Assumes nothing.
use Rattle.search.proofs.Searching.{entered_none}
use Rattle.search.proofs.search.shifts.Goals as goal

pub loop-i-init : goal.loop-i-init
loop-i-init c = entered_none _ c.requires
