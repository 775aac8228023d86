-- `gap::inner::chain::carve_block` meets its contract: each way out is a law of `proofs/Chaining.antt`.
-- Assumes nothing.
use mathlib.Core.Path.{◌≡◌}
use mathlib.Core.List.{[]}
use native.Mathlib.Omega.{arith}
use Rattle.gap.specs.Gap.{block_then}
use Rattle.gap.proofs.Chaining.{hits_of, block_small, block_past, block_hits_lem}
use Rattle.sheet.proofs.Sheets.{adds_none}
use Rattle.gap.proofs.inner.chain.carve_block.Goals as goal
use Rattle.gap.proofs.inner.chain.carve_block.Goals.{then-size-lt4-via-then-size-lt4, then-size-lt4-via-else-size-lt4+then-end-page}

pub returns-then-size-lt4 : goal.returns-then-size-lt4
returns-then-size-lt4 c =
    let none : hits_of c.args.page.now c.args.how c.args.hints.now c.args.spot (block_then c.args.page.now c.args.at []) ≡ [] =
    elim c.then-size-lt4.branch [
      | then-size-lt4-via-then-size-lt4 w ↦ block_small c.args.page.now c.args.how c.args.hints.now c.args.spot c.args.at _ c.block_size-size.ensures.value w.if-size-lt4.true
      | then-size-lt4-via-else-size-lt4+then-end-page w ↦
          block_past c.args.page.now c.args.how c.args.hints.now c.args.spot c.args.at _ c.block_size-size.ensures.value w.if-size-lt4.false w.if-end-page.true
    ] in
    rw none (adds_none _ c.requires.ready.space.fits)

pub returns : goal.returns
returns c =
    rw (block_hits_lem c.args.page.now c.args.how c.args.hints.now c.args.spot c.args.at _ c.block_size-size.ensures.value c.if-size-lt4.false c.if-end-page.false)
    c.carve_payload.ensures
