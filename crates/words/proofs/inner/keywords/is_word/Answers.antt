-- `words::inner::keywords::is_word` meets its contract: the lengths are compared first.
-- Assumes nothing.
use borrow.Author.Tests.{eq-eqb, ne_eqb}
use Rattle.words.specs.Words.{equals}
use Rattle.words.proofs.inner.keywords.is_word.Goals as goal

pub returns-then-s-word : goal.returns-then-s-word
unfolding equals
returns-then-s-word c = simp (eq-eqb _ _ c.if-s-word.true, c.begins.ensures)

pub returns-else-s-word : goal.returns-else-s-word
unfolding equals
returns-else-s-word c = simp (ne_eqb _ _ c.if-s-word.false)
