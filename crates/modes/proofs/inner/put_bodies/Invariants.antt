-- `modes::inner::put_bodies` meets its contract: what the loop has written, with what is left, comes to the whole (`Written`).
-- Assumes nothing.
use Rattle.modes.specs.Inner.{kinds_at}
use Rattle.modes.proofs.Writing.{Written}
use Rattle.modes.proofs.inner.put_bodies.Given as goal

abbrev pub invariant-loop-k : goal.invariant-loop-k
invariant-loop-k l = Written l.bytes (kinds_at l.count l.bytes l.from) l.start l.initial.cols l.first l.at l.end l.cols l.k l.count
