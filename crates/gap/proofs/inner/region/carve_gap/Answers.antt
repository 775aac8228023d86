-- `gap::inner::region::carve_gap` meets its contract: each way out is a law of `proofs/Gaps.antt`.
-- Assumes nothing.
use mathlib.Core.Path.{◌≡◌}
use mathlib.Core.List.{[]}
use Rattle.gap.specs.Gap.{gap_hits}
use Rattle.gap.proofs.Gaps.{gap_none, gap_past, gap_some}
use Rattle.sheet.proofs.Sheets.{adds_none}
use Rattle.gap.proofs.inner.region.carve_gap.Goals as goal
use Rattle.gap.proofs.inner.region.carve_gap.Goals.{then-from-to-via-then-from-to, then-from-to-via-else-from-to+then-to-page}

pub returns-then-from-to : goal.returns-then-from-to
returns-then-from-to c =
    let none : gap_hits c.args.page.now c.args.head c.args.hints.now c.args.spot ≡ [] =
    elim c.then-from-to.branch [
      | then-from-to-via-then-from-to w ↦ gap_none c.args.page.now c.args.head c.args.hints.now c.args.spot _ _ c.gap_from-from.ensures c.gap_to-to.ensures w.if-from-to.true
      | then-from-to-via-else-from-to+then-to-page w ↦
          gap_past c.args.page.now c.args.head c.args.hints.now c.args.spot _ _ c.gap_from-from.ensures c.gap_to-to.ensures w.if-from-to.false w.if-to-page.true
    ] in
    rw none (adds_none _ c.requires.ready.space.fits)

pub returns : goal.returns
returns c =
    rw (gap_some c.args.page.now c.args.head c.args.hints.now c.args.spot _ _ c.gap_from-from.ensures c.gap_to-to.ensures c.if-from-to.false c.if-to-page.false)
    c.carve_region.ensures
