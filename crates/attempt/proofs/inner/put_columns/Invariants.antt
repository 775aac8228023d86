-- `attempt::inner::put_columns` meets its contract: what the loop has written, with what is left, comes to the whole group (`Writing`).
-- Assumes nothing.
use Prim.Native.Nat.{◌-◌}
use Rattle.attempt.specs.Attempt.{kinds}
use Rattle.attempt.specs.Inner.{header_types}
use Rattle.attempt.proofs.Writing.{Writing}
use Rattle.attempt.proofs.inner.put_columns.Given as goal

abbrev pub invariant-loop-at : goal.invariant-loop-at
invariant-loop-at l =
    Writing l.bytes (kinds (header_types l.bytes l.o l.head l.from)) l.stop l.initial.start l.initial.cols l.k l.at l.start l.cols l.to

abbrev pub decreases-loop-at : goal.decreases-loop-at
decreases-loop-at l = l.stop - l.at
