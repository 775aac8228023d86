-- `filter::inner::high::run_end` meets its contract: all from p to before `at` are in the run.
-- Assumes nothing.
use Prim.Native.Nat.{ℕ, ◌≤◌, ◌<◌}
use lib.ListN.{get_or}
use Rattle.filter.proofs.inner.high.run_end.Given as goal

abbrev pub invariant-loop-at : goal.invariant-loop-at
invariant-loop-at l = (q : ℕ) → l.p ≤ q → q < l.at → 128 ≤ get_or l.bytes q 0
