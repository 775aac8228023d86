-- `gap::inner::carve_page` meets its contract: the gap's hits, and behind them those of the blocks.
-- Assumes nothing.
use Prim.Native.Nat.{◌<◌, ◌+◌}
use native.Mathlib.Omega.{arith}
use lib.ListN.{length}
use Rattle.gap.proofs.Gaps.{page_short, page_full, page_more}
use Rattle.hit.proofs.Laws.{ready_then}
use Rattle.sheet.proofs.Sheets.{adds_none}
use Rattle.gap.proofs.inner.carve_page.Goals as goal
use Rattle.gap.proofs.inner.carve_page.Goals.{then-head-page-via-then-head-page, then-head-page-via-else-head-page+then-page-head-lt8}

pub returns-then-head-page : goal.returns-then-head-page
returns-then-head-page c =
    let short : length c.args.page.now < c.args.head + 8 =
    elim c.then-head-page.branch [
      | then-head-page-via-then-head-page w ↦ omega (arith, w.if-head-page.true)
      | then-head-page-via-else-head-page+then-page-head-lt8 w ↦ omega (arith, w.if-head-page.false, w.if-page-head-lt8.true)
    ] in
    rw (page_short c.args.how c.args.page.now c.args.head c.args.hints.now c.args.spot short) (adds_none _ c.requires.ready.space.fits)

pub returns-in_err-carve_gap : goal.returns-in_err-carve_gap
returns-in_err-carve_gap c = rw c.from_residual.ensures (page_full _ _ _ _ _ _ _ (omega arith) (rw c.in_err-carve_gap.was at c.carve_gap.ensures))

pub carve_blocks-requires : goal.carve_blocks-requires
carve_blocks-requires c =
    let x = rw c.in_ok-carve_gap.was at c.carve_gap.ensures in
    record { head_in_bounds = omega arith; hints_len_bound = c.requires.hints_len_bound; ready = ready_then _ _ _ _ _ _ c.requires.ready x }

pub returns : goal.returns
returns c =
    let x = rw c.in_ok-carve_gap.was at c.carve_gap.ensures in
    page_more _ _ _ _ _ _ _ (omega arith) _ _ x c.carve_blocks.ensures
