-- `words::runs::in_run` meets its contract: each arm is a clause of the definition.
-- Assumes nothing.
use Rattle.words.proofs.runs.in_run.Goals as goal

pub returns-in-Blanks : goal.returns-in-Blanks
returns-in-Blanks c = rw c.in-Blanks.is c.is_blank.ensures

pub returns-in-Word : goal.returns-in-Word
returns-in-Word c = rw (c.in-Word.is, c.is_blank-in-Word.ensures)

pub returns-in-Until : goal.returns-in-Until
returns-in-Until c = rw c.in-Until.is

pub returns-in-Unlike : goal.returns-in-Unlike
returns-in-Unlike c = rw c.in-Unlike.is
