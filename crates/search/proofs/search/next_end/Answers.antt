-- `search::search::next_end` meets its contract.
-- Assumes nothing.
use Rattle.std.proofs.Common.{arith}
use Rattle.search.proofs.Searching.{pass_more}
use Rattle.search.proofs.search.next_end.Goals as goal

pub loop-i-preserved : goal.loop-i-preserved
loop-i-preserved c =
    (pass_more c.requires (omega arith) (c.shifted-i.ensures.value, c.shifted-i.ensures.byte) c.loop-i.invariant).0
