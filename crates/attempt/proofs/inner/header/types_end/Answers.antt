-- `attempt::inner::header::types_end` meets its contract: reading on from `at` ends where reading the header's types does (`Ends`).
-- Assumes nothing.
use Prim.Native.Nat.{◌+◌}
use mathlib.Core.Path.{sym, ap}
use native.Mathlib.Omega.{arith}
use Rattle.attempt.specs.Inner.{reach}
use Rattle.attempt.proofs.Skipping.{skip_past, ends_step, ends_end}
use Rattle.attempt.proofs.Types.{types_end_lem}
use Rattle.attempt.proofs.inner.header.types_end.Goals as goal

pub returns-then-from-stop : goal.returns-then-from-stop
returns-then-from-stop c = sym (ap (reach _) (types_end_lem _ _ _ _ c.if-from-stop.true))

pub loop-at-init : goal.loop-at-init
loop-at-init c = c.last_end-at.ensures

pub loop-at-smaller : goal.loop-at-smaller
loop-at-smaller c =
    omega (arith, c.skip_varint-at.ensures, skip_past c.args.bytes.now (c.args.o + c.args.head) c.requires.inside c.loop-at.at c.loop-at-test.true)

pub loop-at-preserved : goal.loop-at-preserved
loop-at-preserved c =
    rw c.skip_varint-at.ensures (ends_step _ _ c.requires.inside _ _ c.loop-at-test.true c.loop-at.invariant)

pub returns : goal.returns
returns c = ends_end _ _ c.requires.inside _ _ c.loop-at-test.false c.loop-at.invariant
