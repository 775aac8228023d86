-- `filter::inner::high::run_start` meets its contract: all from `before` to p are in the run.
-- Assumes nothing.
use Prim.Native.Nat.{ℕ, ◌≤◌}
use lib.ListN.{get_or}
use Rattle.filter.proofs.inner.high.run_start.Given as goal

abbrev pub invariant-loop-before : goal.invariant-loop-before
invariant-loop-before l = (q : ℕ) → l.before ≤ q → q ≤ l.p → 128 ≤ get_or l.bytes q 0
