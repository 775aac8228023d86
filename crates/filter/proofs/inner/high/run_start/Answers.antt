-- `filter::inner::high::run_start` meets its contract: all from `before` to p are in the run.
-- Assumes nothing.
use mathlib.Core.Path.{◌≡◌}
use native.Mathlib.Omega.{arith}
use Rattle.filter.proofs.Runs.{begins_here}
use Rattle.filter.proofs.inner.high.run_start.Goals as goal

pub loop-before-init : goal.loop-before-init
loop-before-init c = begins_here c.args.bytes.now c.args.p 0 c.requires.1

pub returns : goal.returns
returns c =
    let e : c.loop-before.before ≡ 0 = omega arith in
    record { before = omega arith; high = rw e at c.loop-before.invariant; low = λ some. absurd (omega arith) }
