-- `freeblock::inner::chain::marked_length` meets its contract.
-- Assumes nothing.
use mathlib.Core.Path.{refl, sym, ◌∙◌}
use native.Mathlib.Omega.{arith}
use Rattle.freeblock.proofs.Chaining.{marked_start, marked_end, marked_seen, marked_out, marked_more, lies}
use Rattle.freeblock.proofs.inner.chain.marked_length.Goals as goal
use Rattle.freeblock.proofs.inner.chain.marked_length.Goals.{then-chain_ends-via-then-chain_ends, then-chain_ends-via-else-chain_ends+then-marks-at-ne0}

pub loop-n-init : goal.loop-n-init
loop-n-init c =
    rw c.first_freeblock-at.ensures.value (marked_start _ _ _ refl (rw c.first_freeblock-at.ensures.value at c.first_freeblock-at.ensures.small))

pub returns-then-chain_ends : goal.returns-then-chain_ends
returns-then-chain_ends c =
    elim c.then-chain_ends.branch [
      | then-chain_ends-via-then-chain_ends w ↦ marked_end _ _ _ _ _ c.loop-n.invariant (sym c.chain_ends.ensures ∙ w.if-chain_ends.true)
      | then-chain_ends-via-else-chain_ends+then-marks-at-ne0 w ↦ marked_seen _ _ _ _ _ c.loop-n.invariant w.if-marks-at-ne0.true
    ]

pub block_next-at-requires : goal.block_next-at-requires
block_next-at-requires c = (lies _ _ _ (sym c.chain_ends.ensures ∙ c.if-chain_ends.false)).four

pub loop-n-preserved : goal.loop-n-preserved
loop-n-preserved c =
    rw c.block_next-at.ensures.value
    (marked_more _ _ _ _ _ c.loop-n.invariant c.loop-n-test.true (sym c.chain_ends.ensures ∙ c.if-chain_ends.false) c.if-marks-at-ne0.false (rw c.block_next-at.ensures.value at c.block_next-at.ensures.small))

pub returns : goal.returns
returns c = omega (arith, marked_out _ _ _ _ _ c.loop-n.invariant c.loop-n-test.false)
