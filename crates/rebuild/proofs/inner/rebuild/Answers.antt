-- `rebuild::inner::rebuild` meets its contract: without guesses there is nothing, and either way to rebuild has its own function.
-- Assumes nothing.
use Rattle.rebuild.proofs.Laws.{no_guess}
use Rattle.rebuild.proofs.inner.rebuild.Goals as goal

pub returns-in-NoGuesses : goal.returns-in-NoGuesses
returns-in-NoGuesses c = rw c.in-NoGuesses.is (no_guess _ _ _)
