-- `digits::inner::copy` meets its contract. The loop's invariant: the bytes from i on, written to what the list has become, give all of them.
-- Assumes nothing.
use mathlib.Core.Path.{◌≡◌}
use lib.ListN.{length, drop}
use lib.Seq.{sets}
use Rattle.digits.proofs.inner.copy.Given as goal

abbrev pub invariant-loop-i : goal.invariant-loop-i
invariant-loop-i l = record {
  same : length l.to ≡ length l.from;
  rest : sets l.to l.i (drop l.i l.from) ≡ sets l.initial.to 0 l.from;
}
