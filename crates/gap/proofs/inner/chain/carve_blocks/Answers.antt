-- `gap::inner::chain::carve_blocks` meets its contract: what the loop has carved, with what the chain still has, are the hits of all its blocks (`Along`).
-- Assumes nothing.
use Prim.Native.Nat.{◌+◌, ◌-◌}
use mathlib.Core.Path.{◌≡◌, sym, ◌∙◌}
use mathlib.Core.Bool.{false}
use mathlib.Core.List.{[], ◌++◌}
use native.Mathlib.Omega.{arith}
use Rattle.cells.proofs.Along.{Along, along_start, along_end, along_on, along_full, along_ready}
use Rattle.gap.specs.Gap.{block_then, chain_ends, chain_from, chain, most_steps}
use Rattle.gap.specs.Inner.{larger}
use Rattle.gap.proofs.Chaining.{hits_of, lies, chain_start, chain_step, chain_end, chain_out}
use Rattle.page.specs.Page.{block_next}
use Rattle.gap.proofs.inner.chain.carve_blocks.Goals as goal
use Rattle.gap.proofs.inner.chain.carve_blocks.Goals.{Else-chain_ends}

-- a place at which the chain does not end
on_chain : (c : Else-chain_ends) → chain_ends c.args.page.now c.loop.at ≡ false
on_chain c = sym c.chain_ends.ensures ∙ c.if-chain_ends.false

-- so its block comes next
further : (c : Else-chain_ends) →
    let hits = hits_of c.args.page.now c.args.how c.args.hints.now c.args.spot in
    Along c.args.sheet.now (hits (chain c.args.page.now c.args.head))
    (hits (block_then c.args.page.now c.loop.at []) ++ hits (chain_from (most_steps - (c.loop.counter + 1)) c.args.page.now (larger c.loop.at (block_next c.args.page.now c.loop.at)))) c.loop.sheet
further c =
    let less : most_steps - (c.loop.counter + 1) ≡ most_steps - c.loop.counter - 1 = omega arith in
    rw less
    (rw (chain_step c.args.page.now c.args.how c.args.hints.now c.args.spot (most_steps - c.loop.counter) c.loop.at (omega (arith, c.loop-test.true)) (on_chain c)) at c.loop.invariant.along)

pub loop-init : goal.loop-init
loop-init c =
    record {
      low = c.first_freeblock-at.ensures.small;
      along =
          rw (chain_start c.args.page.now c.args.how c.args.hints.now c.args.spot c.args.head c.first_freeblock-at.result c.first_freeblock-at.ensures.value)
          (along_start _ _ c.requires.ready.space.fits);
    }

pub returns-then-chain_ends : goal.returns-then-chain_ends
returns-then-chain_ends c =
    along_end _ _ _
    (rw (chain_end c.args.page.now c.args.how c.args.hints.now c.args.spot (most_steps - c.loop.counter) c.loop.at (sym c.chain_ends.ensures ∙ c.if-chain_ends.true)) at c.loop.invariant.along)

pub carve_block-requires : goal.carve_block-requires
carve_block-requires c =
    record {
      at_in_bounds = lies _ _ (on_chain (goal.at.carve_block-requires c).Else-chain_ends);
      hints_len_bound = c.requires.hints_len_bound;
      ready = along_ready _ _ _ _ _ _ _ c.loop.invariant.along c.requires.ready;
    }

pub returns-in_err-carve_block : goal.returns-in_err-carve_block
returns-in_err-carve_block c =
    rw c.from_residual.ensures
    (along_full _ _ _ _ _ (further (goal.at.returns-in_err-carve_block c).Else-chain_ends) _ (rw c.in_err-carve_block.was at c.carve_block.ensures))

pub next_place-at-requires : goal.next_place-at-requires
next_place-at-requires c = lies _ _ (on_chain (goal.at.next_place-at-requires c).Else-chain_ends)

pub loop-preserved : goal.loop-preserved
loop-preserved c =
    record {
      low = c.next_place-at.ensures.small;
      along =
          rw c.next_place-at.ensures.value
          (along_on _ _ _ (hits_of c.args.page.now c.args.how c.args.hints.now c.args.spot (block_then c.args.page.now c.loop.at [])) _ (further (goal.at.loop-preserved c).Else-chain_ends) _
          (rw c.in_ok-carve_block.was at c.carve_block.ensures));
    }

pub returns-after-loop : goal.returns-after-loop
returns-after-loop c =
    along_end _ _ _ (rw (chain_out c.args.page.now c.args.how c.args.hints.now c.args.spot (most_steps - c.loop.counter) c.loop.at (omega (arith, c.loop-test.false))) at c.loop.invariant.along)
