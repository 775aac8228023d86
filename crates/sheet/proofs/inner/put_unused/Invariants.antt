-- `sheet::inner::put_unused` meets its contract. The loop's invariant: the first entries are written.
-- Assumes nothing.
use mathlib.Core.Path.{◌≡◌}
use lib.Seq.{sets}
use Rattle.sheet.specs.Columns.{unused_words}
use Rattle.sheet.proofs.inner.put_unused.Given as goal

abbrev pub invariant-loop-k : goal.invariant-loop-k
invariant-loop-k l = l.cols ≡ sets l.initial.cols l.at (unused_words l.k)
