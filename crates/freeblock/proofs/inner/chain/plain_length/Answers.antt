-- `freeblock::inner::chain::plain_length` meets its contract.
-- Assumes nothing.
use mathlib.Core.Path.{sym, ◌∙◌}
use native.Mathlib.Omega.{arith}
use Rattle.freeblock.proofs.Chaining.{reached_more, reached_end, lies}
use Rattle.freeblock.proofs.inner.chain.plain_length.Goals as goal

pub returns-then-chain_ends : goal.returns-then-chain_ends
returns-then-chain_ends c = reached_end _ _ _ _ (omega arith) c.loop-n.invariant.reached (sym c.chain_ends.ensures ∙ c.if-chain_ends.true)

pub block_next-at-requires : goal.block_next-at-requires
block_next-at-requires c = (lies _ _ _ (sym c.chain_ends.ensures ∙ c.if-chain_ends.false)).four

pub loop-n-preserved : goal.loop-n-preserved
loop-n-preserved c =
    let r = reached_more _ _ _ _ c.loop-n.invariant.reached (sym c.chain_ends.ensures ∙ c.if-chain_ends.false) in
    record { low = c.block_next-at.ensures.small; reached = rw c.block_next-at.ensures.value r }
