-- `words::runs::leading` meets its contract: the run ends at the first byte that is not of it, or with the slice.
-- Assumes nothing.
use Rattle.std.proofs.Common.{◌∙◌, refl, rules}
use borrow.Author.Tests.{tests}
use Rattle.std.specs.Prelude.{not}
use Rattle.std.proofs.lemmas.Iterator.{YieldsList-from_slice}
use Rattle.std.proofs.lemmas.Iterator.Search.{position_from_yields_List}
use Rattle.words.specs.Runs.{in_run}
use Rattle.words.proofs.Laws.{run_length}
use Rattle.words.proofs.runs.leading.Goals as goal

pub returns-clause-value : goal.returns-clause-value
returns-clause-value c =
    c.unwrap_or.ensures ∙ run_length (in_run c.args.run) c.args.s.now
    (position_from_yields_List (λ b. not (in_run c.args.run b)) _ _ c.position.result c.position.ensures.ran (YieldsList-from_slice c.args.s.now c.iter.ensures.rest) (λ x b q k. search (rules, tests))) refl
