-- `cells::inner::rebuilt::carve_start` meets its contract: the start has no row, or the row is added.
-- Assumes nothing.
use mathlib.Core.Path.{◌∙◌}
use Rattle.cells.proofs.Rebuilding.{start_one}
use Rattle.cells.proofs.inner.rebuilt.carve_start.Goals as goal

pub returns : goal.returns
returns c =
    let origin = c.intra_page-origin.ensures ∙ rw (c.rebuilt-confidence.ensures, c.suited_share.ensures) in
    start_one c.args.how _ _ _ c.args.spot _ _ _ c.in-Some.ensures _ _ _ origin c.add_found.ensures
