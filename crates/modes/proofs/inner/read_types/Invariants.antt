-- `modes::inner::read_types` meets its contract: what the loop has read, with what is left, comes to the whole (`Counted`).
-- Assumes nothing.
use Rattle.modes.specs.Found.{types_from}
use Rattle.modes.proofs.Reading.{Counted}
use Rattle.record.specs.Places.{types_padded}
use Rattle.modes.proofs.inner.read_types.Given as goal

abbrev pub invariant-loop-count : goal.invariant-loop-count
invariant-loop-count l =
    Counted l.bytes l.stop (types_from l.most l.bytes l.from l.stop) (types_padded l.most l.bytes l.from l.stop) l.most l.at l.padded l.count
