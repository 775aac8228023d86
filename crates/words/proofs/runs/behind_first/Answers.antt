-- `words::runs::behind_first` meets its contract: where the byte is not found, nothing is left.
-- Assumes nothing.
use mathlib.Core.Path.{ap, ◌∙◌}
use native.Mathlib.Omega.{arith}
use lib.ListN.{drop}
use Rattle.words.specs.Runs.{behind_first}
use Rattle.words.proofs.Laws.{part_from, none_behind}
use Rattle.words.proofs.runs.behind_first.Goals as goal

pub returns-in_default : goal.returns-in_default
unfolding behind_first
returns-in_default c = none_behind c.dropped.result.now (omega arith) ∙ ap (drop 1) c.dropped.ensures

pub returns-in-len1-up : goal.returns-in-len1-up
unfolding behind_first
returns-in-len1-up c = part_from c.dropped.result.now 1 ∙ ap (drop 1) c.dropped.ensures
