-- `cases::lists::changed` meets its contract: what it counted so far are the changed cells below.
-- Assumes nothing.
use Rattle.std.proofs.Common.{◌≡◌, ◌≤◌}
use Rattle.cases.specs.Lent.{changed_below}
use Rattle.cases.proofs.lists.changed.Given as goal

abbrev pub invariant-loop-i : goal.invariant-loop-i
invariant-loop-i l = (l.n ≤ l.i) × (l.n ≡ changed_below l.of l.list l.i)
