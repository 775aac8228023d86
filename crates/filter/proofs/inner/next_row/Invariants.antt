-- `filter::inner::next_row` meets its contract: the offsets before `at` are passed over (`PassedOverIs`), and what was met last is a run.
-- Assumes nothing.
use Prim.Native.Nat.{◌-◌}
use Rattle.filter.specs.Inner.{PassedOverIs, IsHigh}
use Rattle.filter.proofs.inner.next_row.Given as goal

abbrev pub invariant-loop-find : goal.invariant-loop-find
invariant-loop-find l = PassedOverIs l.bytes l.hints l.start l.last l.at l.read × IsHigh l.bytes l.met

abbrev pub decreases-loop-find : goal.decreases-loop-find
decreases-loop-find l = l.last - l.at
