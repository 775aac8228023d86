-- `words::runs::whole_blocks` meets its contract: blocks that pass, one behind the other, lead the slice.
-- Assumes nothing.
use Rattle.std.proofs.Common.{rules, refl}
use Rattle.std.specs.Iterator.Adapters.{take_while_callee}
use Rattle.words.specs.Runs.{in_run}
use Rattle.words.proofs.Blocks.{counted_lead}
use Rattle.words.proofs.runs.whole_blocks.Goals as goal

pub returns : goal.returns
returns c =
    rw (c.chunks_exact.ensures.rest) at (rw c.take_while.ensures.source at (counted_lead (in_run c.args.run) 8 _ (take_while_callee c.take_while.result) (λ x q k. search rules) c.take_while.result c.count.result refl (cc) c.count.ensures.ran))
