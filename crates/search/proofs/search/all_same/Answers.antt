-- `search::search::all_same` meets its contract.
-- Assumes nothing.
use Rattle.std.proofs.Common.{arith}
use Rattle.search.proofs.Searching.{tells_more}
use Rattle.search.proofs.search.all_same.Goals as goal

pub loop-k-preserved : goal.loop-k-preserved
loop-k-preserved c = tells_more _ _ _ (omega (arith, c.requires.from_in_bounds)) c.loop-k.invariant
