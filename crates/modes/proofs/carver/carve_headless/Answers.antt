-- `modes::carver::carve_headless` meets its contract: the one mode behind the other.
-- Assumes nothing.
use Rattle.modes.proofs.Carving.{ready_then}
use Rattle.modes.proofs.Running.{headless_over, headless_both, whole_is}
use Rattle.modes.specs.Inner.{TriedIs}
use Rattle.modes.specs.Modes.{columns_only_in}
use Rattle.modes.proofs.carver.carve_headless.Goals as goal
use Rattle.modes.proofs.carver.carve_headless.Goals.{After-try_headless-whole}

-- what ColumnsOnly finds
whole : (c : After-try_headless-whole) → TriedIs c.args.bytes.now c.args.sheet.now.width (columns_only_in c.args.bytes.now c.args.sheet.now.width) c.try_headless-whole.result
whole c = whole_is _ _ c.try_headless-whole.result c.try_headless-whole.ensures

pub returns-in_err-carve_one : goal.returns-in_err-carve_one
returns-in_err-carve_one c =
    rw c.from_residual.ensures
    (headless_over _ _ _ _ _ c.try_headless-whole.result (whole (goal.at.returns-in_err-carve_one c).After-try_headless-whole) c.in_err-carve_one.ensures)

pub carve_one-requires-2-clause-ready : goal.carve_one-requires-2-clause-ready
carve_one-requires-2-clause-ready c = ready_then _ _ _ _ _ c.requires c.in_ok-carve_one.ensures

pub returns : goal.returns
returns c =
    headless_both _ _ _ _ _ c.try_headless-whole.result (whole (goal.at.returns c).After-try_headless-whole) c.try_carve_first_col_missing-missing.result _ _
    (rw c.in_ok-carve_one.ensures.width at c.try_carve_first_col_missing-missing.ensures) c.in_ok-carve_one.ensures c.carve_one-2.ensures
