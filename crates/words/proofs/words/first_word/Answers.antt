-- `words::words::first_word` meets its contract: a run of blanks, and the word behind it.
-- Assumes nothing.
use mathlib.Core.Path.{ap, ◌∙◌}
use Rattle.words.specs.Runs.{take_while, in_word}
use Rattle.words.specs.Words.{first_word}
use Rattle.words.proofs.Laws.{take_run}
use Rattle.words.proofs.words.first_word.Goals as goal

pub returns : goal.returns
unfolding first_word
returns c = rw c.leading.ensures.value (take_run in_word _ ∙ ap (take_while in_word) c.dropped-from.ensures)
