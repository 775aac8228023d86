-- `scan::schema_sig::run` meets its contract: what the loop has found, with what is still to come, comes to the whole run (`On`).
-- Assumes nothing.
use Rattle.std.specs.Prelude.{◌≡◌}
use Prim.Native.Nat.{◌-◌, ◌*◌, ◌≤◌}
use lib.ListN.{length}
use Rattle.attempt.specs.Places.{most_places}
use Rattle.filter.specs.Inner.{IsHigh}
use Rattle.scan.proofs.Running.{On}
use Rattle.scan.specs.Inner.{SameLists}
use Rattle.scan.proofs.schema_sig.run.Given as goal

abbrev pub invariant-loop-row : goal.invariant-loop-row
invariant-loop-row l =
    (l.sheet.n ≤ l.sheet.room) × (l.read ≤ most_places * l.o) × (l.read ≤ most_places * length l.bytes)
    × On l.bytes l.hints l.base l.start l.sheet.room l.initial.sheet.rows.now l.initial.sheet.cols.now l.sheet.rows.now l.sheet.cols.now l.o l.sheet.n l.read
    × IsHigh l.bytes l.met
    × (SameLists l.initial.sheet l.sheet × (l.sheet.width ≡ l.initial.sheet.width) × (l.sheet.room ≡ l.initial.sheet.room))

abbrev pub decreases-loop-row : goal.decreases-loop-row
decreases-loop-row l = length l.bytes - l.o
