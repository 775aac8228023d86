-- `filter::inner::next_row` meets its contract: the offsets before `at` are passed over (`PassedOverIs`), and what was met last is a run.
-- Assumes nothing.
use Prim.Native.Nat.{◌+◌}
use mathlib.Core.Path.{◌≡◌}
use native.Mathlib.Omega.{arith}
use Rattle.filter.specs.Inner.{PassedOverIs, OnIs}
use Rattle.filter.proofs.Laws.{passed_on}
use Rattle.filter.proofs.Low.{low_passed}
use Rattle.filter.proofs.inner.next_row.Goals as goal
use Rattle.filter.proofs.inner.next_row.Goals.{After-pass_seen-seen}

-- a step on,
stepped : (c : After-pass_seen-seen) →
    OnIs c.args.bytes.now c.args.hints.now c.loop-find.at c.args.last c.in-Err.passed c.one_step-step.result.1
stepped c = rw c.in-Err.is at c.one_step-step.ensures

-- and what is passed over with it, and behind it
beyond : (c : After-pass_seen-seen) →
    PassedOverIs c.args.bytes.now c.args.hints.now c.args.start c.args.last c.pass_seen-seen.result.to (c.loop-find.read + (c.in-Err.passed.read + c.pass_seen-seen.result.read))
beyond c =
    let e : c.loop-find.read + c.in-Err.passed.read + c.pass_seen-seen.result.read ≡ c.loop-find.read + (c.in-Err.passed.read + c.pass_seen-seen.result.read) = omega arith in
    rw e at (passed_on _ _ _ _ _ _ (passed_on _ _ _ _ _ _ c.loop-find.invariant.0 _ _ (stepped c).step.passed) _ _ c.pass_seen-seen.ensures)

pub loop-find-init : goal.loop-find-init
loop-find-init c = (low_passed _ _ _ _ (omega (arith, c.requires.last_in_bounds.0)) _ c.low_end-at.ensures, c.requires.high)

pub returns-then-at-last : goal.returns-then-at-last
returns-then-at-last c = record { to = c.pass_seen-seen.result.to; passed = beyond (goal.at.returns-then-at-last c).After-pass_seen-seen; there = c.if-at-last.true }

pub loop-find-preserved : goal.loop-find-preserved
loop-find-preserved c = (beyond (goal.at.loop-find-preserved c).After-pass_seen-seen, (stepped (goal.at.loop-find-preserved c).After-pass_seen-seen).step.run_is)
