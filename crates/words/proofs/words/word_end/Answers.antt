-- `words::words::word_end` meets its contract: a run of blanks, and the word behind it.
-- Assumes nothing.
use Prim.Native.Nat.{◌+◌, ◌≤◌}
use mathlib.Core.Path.{◌≡◌}
use native.Mathlib.Omega.{arith}
use lib.ListN.{length, drop, length-drop}
use Rattle.words.specs.Runs.{in_word, take_while}
use Rattle.words.proofs.Laws.{part_from, word_ends}
use Rattle.words.proofs.words.word_end.Goals as goal
use Rattle.words.proofs.words.word_end.Goals.{After-leading}

inside : (c : After-leading) →
    c.leading-from.result + c.leading.result ≤ length c.args.s.now
inside c =
    let left : c.leading.result ≤ length (drop c.leading-from.result c.args.s.now) = rw part_from at c.leading.ensures.within in
    omega (arith, c.leading-from.ensures.within, length-drop c.leading-from.result c.args.s.now)

pub overflow_add-result : goal.overflow_add-result
overflow_add-result c = omega (arith, inside c)

pub returns : goal.returns
returns c =
    let own : c.leading.result ≡ length (take_while in_word (drop c.leading-from.result c.args.s.now)) = rw part_from at c.leading.ensures.value in
    word_ends c.args.s.now c.leading-from.ensures.value own (inside c)
