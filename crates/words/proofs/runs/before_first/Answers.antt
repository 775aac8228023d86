-- `words::runs::before_first` meets its contract: the run of other bytes.
-- Assumes nothing.
use Rattle.words.specs.Runs.{is_not, before_first}
use Rattle.words.proofs.Laws.{take_run}
use Rattle.words.proofs.runs.before_first.Goals as goal

pub returns : goal.returns
unfolding before_first
returns c = rw c.leading.ensures.value (take_run (is_not c.args.byte) _)
