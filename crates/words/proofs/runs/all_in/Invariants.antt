-- `words::runs::all_in` meets its contract. The loop's invariant: where the answer so far is true, the bytes before are of the run.
-- Assumes nothing.
use Rattle.words.specs.Inner.{AllIn}
use Rattle.words.specs.Runs.{in_run}
use Rattle.words.proofs.runs.all_in.Given as goal

abbrev pub invariant-loop-byte : goal.invariant-loop-byte
invariant-loop-byte l = AllIn (in_run l.run) l.block 0 l.byte-index l.all
