-- `filter::inner::look_header` meets its contract: each way out is a law of `proofs/Headers.antt`.
-- Assumes nothing.
use native.Mathlib.Omega.{arith}
use Rattle.filter.proofs.Headers.{too_far, one_soon, unfit}
use Rattle.filter.proofs.inner.look_header.Goals as goal

pub returns-then-o-head : goal.returns-then-o-head
returns-then-o-head c = too_far _ _ _ _ c.requires.o_in_bounds.0 c.requires.o_in_bounds.1 c.requires.o_in_bounds.3 (omega (arith, c.if-o-head.true))

pub returns-then-too_long : goal.returns-then-too_long
returns-then-too_long c =
    one_soon _ _ _ _ c.requires.o_in_bounds.0 c.requires.o_in_bounds.1 c.requires.o_in_bounds.3 c.requires.o_in_bounds.2 (omega (arith, c.if-o-head.false)) (unfit _ _ _ _ c.requires.o_in_bounds.2 c.if-o-head.false (λ lt le. let far = rw c.if-too_long.true at c.too_long.ensures in omega arith)) _ c.soon_ends.ensures

pub returns : goal.returns
returns c =
    one_soon _ _ _ _ c.requires.o_in_bounds.0 c.requires.o_in_bounds.1 c.requires.o_in_bounds.3 c.requires.o_in_bounds.2 (omega (arith, c.if-o-head.false)) (rw c.if-may_have.false at c.may_have.ensures) _ c.soon_ends-2.ensures
