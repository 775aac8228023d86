-- `words::words::trimmed` meets its contract: blanks go from the front, then from the end.
-- Assumes nothing.
use mathlib.Core.Path.{ap, ◌∙◌}
use Rattle.words.specs.Runs.{is_blank, drop_while_end}
use Rattle.words.specs.Words.{trim}
use Rattle.words.proofs.words.trimmed.Goals as goal

pub returns : goal.returns
unfolding trim
returns c = c.kept.ensures.part.kept ∙ ap (drop_while_end is_blank) c.dropped-from.ensures
