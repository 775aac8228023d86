-- `unalloc::unalloc::read_and_match` meets its contract: what the loop has read, with what is left, comes to the whole (`ReadSoFar`).
-- Assumes nothing.
use lib.ListN.{length}
use Rattle.modes.specs.Found.{types_from}
use Rattle.record.specs.Places.{types_padded}
use Rattle.unalloc.proofs.Reading.{ReadSoFar}
use Rattle.unalloc.proofs.unalloc.read_and_match.Given as goal

abbrev pub invariant-loop-count : goal.invariant-loop-count
invariant-loop-count l =
    ReadSoFar l.region l.types l.stop (types_from (length l.types) l.region l.from l.stop) (types_padded (length l.types) l.region l.from l.stop) l.at l.padded l.end l.count l.matched
