-- `words::runs::dropped` meets its contract: what the run leaves.
-- Assumes nothing.
use mathlib.Core.Path.{◌∙◌}
use Rattle.words.proofs.Laws.{part_from, drop_run}
use Rattle.words.proofs.runs.dropped.Goals as goal

pub returns : goal.returns
returns c = rw c.leading.ensures.value (part_from c.args.s.now _ ∙ drop_run _ c.args.s.now)
