-- `freeblock::inner::carve_page` meets its contract: what the loop has carved are the blocks so far (`Carving`).
-- Assumes nothing.
use Prim.Native.Nat.{◌<◌}
use mathlib.Core.Path.{◌≡◌}
use native.Mathlib.Omega.{arith}
use lib.ListN.{length}
use Rattle.freeblock.specs.Freeblock.{freeblocks}
use Rattle.freeblock.proofs.Blocks.{carving_start, carving_none, carving_done, carving_lies, carving_on, carving_full}
use Rattle.freeblock.proofs.Chaining.{Lies}
use Rattle.hit.proofs.Laws.{ready_then}
use Rattle.freeblock.proofs.inner.carve_page.Goals as goal
use Rattle.freeblock.proofs.inner.carve_page.Goals.{In-loop}

pub returns-then-head-page : goal.returns-then-head-page
returns-then-head-page c = carving_none _ _ _ _ _ c.requires.space.fits c.if-head-page.true

pub loop-init : goal.loop-init
loop-init c = carving_start _ _ _ _ _ c.requires.space.fits _ c.first_freeblock-at.ensures.value

-- a block is left,
some : (c : In-loop) → c.loop.counter < length (freeblocks c.args.page.now c.args.head)
some c = omega (arith, c.chain_length-end.ensures)

-- and stands here
here : (c : In-loop) → Lies c.args.page.now c.args.head c.loop.at
here c = carving_lies c.loop.invariant (some c)

pub block_size-requires : goal.block_size-requires
block_size-requires c = (here c).four

pub carve_block-requires : goal.carve_block-requires
carve_block-requires c =
    let l = here (goal.at.carve_block-requires c).In-loop in
    record { le_size = rw c.block_size.ensures.value (l.some, l.inside); ready = ready_then _ _ _ _ _ _ c.requires c.loop.invariant.added }

pub returns-in_err-carve_block : goal.returns-in_err-carve_block
returns-in_err-carve_block c =
    let x = rw (c.in_err-carve_block.was, c.block_size.ensures.value) at c.carve_block.ensures in
    rw c.from_residual.ensures (carving_full c.loop.invariant (some (goal.at.returns-in_err-carve_block c).In-loop) _ x)

pub block_next-at-requires : goal.block_next-at-requires
block_next-at-requires c = (here (goal.at.block_next-at-requires c).In-loop).four

pub loop-preserved : goal.loop-preserved
loop-preserved c =
    let x = rw (c.in_ok-carve_block.was, c.block_size.ensures.value) at c.carve_block.ensures in
    rw c.block_next-at.ensures.value (carving_on c.loop.invariant (some (goal.at.loop-preserved c).In-loop) _ x)

pub returns : goal.returns
returns c = carving_done c.loop.invariant (omega (arith, c.chain_length-end.ensures))
