-- `words::words::word_behind` meets its contract.
-- Assumes nothing.
use Prim.Native.Nat.{◌+◌, ◌-◌}
use mathlib.Core.Path.{◌≡◌, sym, ◌∙◌}
use native.Mathlib.Omega.{arith}
use lib.ListN.{drop, length-drop}
use Rattle.words.specs.Inner.{WordEnds}
use Rattle.words.specs.Words.{word_behind}
use Rattle.words.proofs.Laws.{part_from, word_passed}
use Rattle.words.proofs.words.word_behind.Goals as goal

pub loop-preserved : goal.loop-preserved
loop-preserved c =
    let w : WordEnds (drop c.loop.at c.args.s.now) c.word_end-at.result = rw part_from at c.word_end-at.ensures in
    let left : c.args.words - (c.loop.counter + 1) ≡ c.args.words - c.loop.counter - 1 = omega arith in
    (omega (arith, w.within, length-drop c.loop.at c.args.s.now, c.loop.invariant.0), c.loop.invariant.1 ∙ rw left (word_passed c.args.s.now (c.args.words - c.loop.counter) c.loop.at (omega arith) w))

pub returns : goal.returns
unfolding word_behind
returns c =
    let none : c.args.words - c.loop.counter ≡ 0 = omega arith in
    c.first_word.ensures ∙ rw part_from (sym (c.loop.invariant.1 ∙ rw none))
