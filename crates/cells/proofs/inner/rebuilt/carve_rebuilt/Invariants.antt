-- `cells::inner::rebuilt::carve_rebuilt` meets its contract: what the loop has carved are the starts so far (`Starting`).
-- Assumes nothing.
use Rattle.std.specs.Prelude.{◌-◌, ◌≤◌, ◌≡◌, length}
use Rattle.starts.specs.Starts.{rebuilt_starts}
use Rattle.cells.proofs.Starting.{Starting}
use Rattle.cells.proofs.inner.rebuilt.carve_rebuilt.Given as goal

abbrev pub invariant-loop-how : goal.invariant-loop-how
invariant-loop-how l =
    (l.starts ≡ rebuilt_starts (length l.payload) (length l.hints)) × (l.v ≤ l.starts)
    × Starting l.how l.payload l.hints l.spot l.o l.starts l.initial.sheet l.sheet l.v l.k

abbrev pub decreases-loop-how : goal.decreases-loop-how
decreases-loop-how l = l.starts - l.v
