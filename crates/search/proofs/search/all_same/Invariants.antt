-- `search::search::all_same` meets its contract. The loop's invariant: the answer so far tells of the bytes before k.
-- Assumes nothing.
use Rattle.search.specs.Inner.{Tells}
use Rattle.search.proofs.search.all_same.Given as goal

abbrev pub invariant-loop-k : goal.invariant-loop-k
invariant-loop-k l = Tells l.haystack l.pattern l.at l.from l.k l.same
