-- `freeblock::inner::block::carve_block` meets its contract: it carves the payload, which stands behind the block's first four bytes.
-- Assumes nothing.
use Rattle.freeblock.specs.Freeblock.{block_hits}
use Rattle.freeblock.proofs.Blocks.{payload_is}
use Rattle.freeblock.proofs.inner.block.carve_block.Goals as goal

pub returns : goal.returns
unfolding block_hits
returns c = rw (payload_is c.args.page.now c.args.at c.args.size) at c.carve_payload.ensures
