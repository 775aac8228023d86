-- `words::inner::keywords::holds_word` meets its contract. The loop's invariant: the word starts at none of the bytes before i, so the rest decides.
-- Assumes nothing.
use Prim.Native.Nat.{◌+◌, ◌-◌, ◌≤◌}
use mathlib.Core.Path.{◌≡◌}
use lib.ListN.{length, drop}
use Rattle.words.specs.Words.{holds}
use Rattle.words.proofs.inner.keywords.holds_word.Given as goal

abbrev pub invariant-loop-i : goal.invariant-loop-i
invariant-loop-i l = (l.i ≤ length l.s + 1) × (holds l.word l.s ≡ holds l.word (drop l.i l.s))

abbrev pub decreases-loop-i : goal.decreases-loop-i
decreases-loop-i l = length l.s + 1 - l.i
