-- `modes::carver::try_carve_first_col_missing` meets its contract: too little is a miss, and the rest is `try_headless`.
-- Assumes nothing.
use native.Mathlib.Omega.{arith}
use Rattle.modes.proofs.Trying.{missing_short, missing_few, missing_is}
use Rattle.modes.proofs.carver.try_carve_first_col_missing.Goals as goal
use Rattle.modes.proofs.carver.try_carve_first_col_missing.Goals.{then-bytes-le-GONE-via-then-bytes-le-GONE, then-bytes-le-GONE-via-else-bytes-le-GONE+then-columns-lt2}

pub returns-then-bytes-le-GONE : goal.returns-then-bytes-le-GONE
returns-then-bytes-le-GONE c =
    elim c.then-bytes-le-GONE.branch [
      | then-bytes-le-GONE-via-then-bytes-le-GONE w ↦ missing_short _ _ w.if-bytes-le-GONE.true
      | then-bytes-le-GONE-via-else-bytes-le-GONE+then-columns-lt2 w ↦ missing_few _ _ (omega (arith, w.if-bytes-le-GONE.false)) w.if-columns-lt2.true
    ]

pub returns : goal.returns
returns c = missing_is _ c.args.columns (omega (arith, c.if-bytes-le-GONE.false)) (omega (arith, c.if-columns-lt2.false)) c.try_headless.result c.try_headless.ensures
