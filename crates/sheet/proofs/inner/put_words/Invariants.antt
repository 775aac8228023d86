-- `sheet::inner::put_words` meets its contract. The loop's invariant: the words from i on, written to what the list has become, give what all of them give.
-- Assumes nothing.
use Prim.Native.Nat.{◌+◌}
use mathlib.Core.Path.{◌≡◌}
use lib.ListN.{drop}
use lib.Seq.{sets}
use Rattle.sheet.proofs.inner.put_words.Given as goal

abbrev pub invariant-loop-i : goal.invariant-loop-i
invariant-loop-i l = sets l.list (l.at + l.i) (drop l.i l.words) ≡ sets l.initial.list l.at l.words
