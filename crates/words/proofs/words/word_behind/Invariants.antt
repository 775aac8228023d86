-- `words::words::word_behind` meets its contract. The loop's invariant: behind `at` so many words fewer are to be passed over.
-- Assumes nothing.
use Prim.Native.Nat.{◌-◌, ◌≤◌}
use mathlib.Core.Path.{◌≡◌}
use lib.ListN.{length, drop}
use Rattle.words.specs.Words.{word_behind}
use Rattle.words.proofs.words.word_behind.Given as goal

abbrev pub invariant-loop : goal.invariant-loop
invariant-loop l = (l.at ≤ length l.s) × (word_behind l.words l.s ≡ word_behind (l.words - l.counter) (drop l.at l.s))
