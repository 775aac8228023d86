-- `words::inner::keywords::begins` meets its contract: the length and the first letter may tell that it does not.
-- Assumes nothing.
use mathlib.Core.Path.{sym, ◌∙◌}
use borrow.Author.Tests.{eqb-false}
use Rattle.words.proofs.Laws.{starts_short, starts_other}
use Rattle.words.proofs.inner.keywords.begins.Goals as goal
use Rattle.words.proofs.inner.keywords.begins.Goals.{then-s-word, else-s-word}

pub returns-else-s-word-2 : goal.returns-else-s-word-2
returns-else-s-word-2 c =
    c.if-s-word-2.false
    ∙ elim c.if-s-word.branch [
      | then-s-word w ↦ sym (starts_other _ _ c.requires (eqb-false _ _ (sym w.value-is ∙ c.if-s-word-2.false)))
      | else-s-word w ↦ sym (starts_short _ _ w.if-s-word.false)
    ]
