-- `words::words::second_word` meets its contract: the first word of what stands behind the first.
-- Assumes nothing.
use mathlib.Core.Path.{ap, ◌∙◌}
use Rattle.words.specs.Runs.{drop_while, in_word}
use Rattle.words.specs.Words.{first_word, second_word}
use Rattle.words.proofs.words.second_word.Goals as goal

pub returns : goal.returns
unfolding second_word
returns c = c.first_word.ensures ∙ ap first_word (c.dropped-2.ensures ∙ ap (drop_while in_word) c.dropped.ensures)
