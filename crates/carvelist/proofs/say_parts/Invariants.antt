-- `carvelist::say_parts` meets its contract. The loop's invariant: what is counted, with the parts from `at` on, comes to the whole (`On`); places rise, so the sums fit.
-- Assumes nothing.
use Rattle.std.specs.Prelude.{◌*◌, ◌-◌, ◌≤◌, length}
use Rattle.listing.proofs.Laws.{most_read, On}
use Rattle.listing.specs.Part.{part_rows}
use Rattle.carvelist.proofs.say_parts.Given as goal

abbrev pub invariant-loop-part : goal.invariant-loop-part
invariant-loop-part l =
    On l.region l.hints l.at l.total.rows l.total.read
    × (l.at ≤ length l.region) × (l.total.rows ≤ part_rows * l.at) × (l.total.read ≤ most_read * l.at)

abbrev pub decreases-loop-part : goal.decreases-loop-part
decreases-loop-part l = length l.region - l.at
