-- `filter::inner::types::may_stand` meets its contract.
-- Assumes nothing.
use native.Mathlib.Omega.{arith}
use Rattle.filter.proofs.Headers.{unfit}
use Rattle.filter.proofs.inner.types.may_stand.Goals as goal

pub returns-else-not-too_long : goal.returns-else-not-too_long
returns-else-not-too_long c =
    let far = rw c.if-not-too_long.false at c.too_long.ensures in
    rw c.if-not-too_long.false (unfit _ _ _ _ c.requires.1 c.requires.2 (λ lt le. omega arith))
