-- `words::inner::keywords::holds_word` meets its contract.
-- Assumes nothing.
use Prim.Native.Nat.{◌+◌, ◌≤◌}
use mathlib.Core.Path.{◌≡◌, refl, sym, ◌∙◌}
use mathlib.Core.Bool.{◌||◌}
use native.Mathlib.Omega.{arith}
use borrow.Author.Rules.{rules}
use lib.ListN.{length, drop, length-drop}
use Rattle.words.specs.Words.{holds}
use Rattle.words.proofs.Laws.{part_from, holds_on, holds_at, holds_none}
use Rattle.words.proofs.inner.keywords.holds_word.Goals as goal
use Rattle.words.proofs.inner.keywords.holds_word.Goals.{After-long_run-i, After-starts_with}

-- where the first letter may stand next
on : (c : After-long_run-i) →
    let i = c.loop-i.i + c.long_run-i.result in
    (i ≤ length c.args.s.now) × (holds c.args.word.now c.args.s.now ≡ holds c.args.word.now (drop i c.args.s.now))
on c =
    let left : c.long_run-i.result ≤ length (drop c.loop-i.i c.args.s.now) = rw part_from at c.long_run-i.ensures.within in
    (omega (arith, length-drop c.loop-i.i c.args.s.now), c.loop-i.invariant.1 ∙ holds_on c.args.word.now c.args.s.now c.loop-i.i c.long_run-i.result c.requires c.long_run-i.ensures.value)

-- and the test there
tested : (c : After-starts_with) →
    let i = c.loop-i.i + c.long_run-i.result in
    holds c.args.word.now c.args.s.now ≡ holds c.args.word.now (drop i c.args.s.now) →
    holds c.args.word.now c.args.s.now ≡ (c.starts_with.result || holds c.args.word.now (drop (i + 1) c.args.s.now))
tested c here =
    here ∙ holds_at c.args.word.now c.args.s.now (c.loop-i.i + c.long_run-i.result) c.requires ∙ rw (c.starts_with.ensures, part_from)

pub loop-i-init : goal.loop-i-init
loop-i-init c = (search rules, refl)

pub overflow_add-i : goal.overflow_add-i
overflow_add-i c = omega (arith, (on c).0)

pub slice_bounds-starts_with-count : goal.slice_bounds-starts_with-count
slice_bounds-starts_with-count c = (on c).0

pub returns-then-starts_with : goal.returns-then-starts_with
returns-then-starts_with c = sym (tested (goal.at.returns-then-starts_with c).After-starts_with (on (goal.at.returns-then-starts_with c).After-long_run-i).1 ∙ simp c.if-starts_with.true)

pub loop-i-smaller : goal.loop-i-smaller
loop-i-smaller c = omega (arith, (on (goal.at.loop-i-smaller c).After-long_run-i).0)

pub loop-i-preserved : goal.loop-i-preserved
loop-i-preserved c = (omega (arith, (on (goal.at.loop-i-preserved c).After-long_run-i).0), tested (goal.at.loop-i-preserved c).After-starts_with (on (goal.at.loop-i-preserved c).After-long_run-i).1 ∙ simp c.if-starts_with.false)

pub returns : goal.returns
returns c =
    sym (c.loop-i.invariant.1 ∙ holds_none _ _ c.requires (omega (arith, length-drop c.loop-i.i c.args.s.now)))
