-- `words::runs::kept` meets its contract: the run is told from the last byte on.
-- Assumes nothing.
use Rattle.std.proofs.Common.{◌∙◌, sym, rules, reverse}
use Rattle.std.proofs.lemmas.List.{length-reverse}
use borrow.Author.Tests.{tests}
use Rattle.std.specs.Prelude.{not}
use Rattle.std.proofs.lemmas.Iterator.Adapters.{YieldsList-from_rev_slice}
use Rattle.std.proofs.lemmas.Iterator.Search.{position_from_yields_List}
use Rattle.words.specs.Runs.{in_run}
use Rattle.words.proofs.Laws.{run_length, kept_run}
use Rattle.words.proofs.runs.kept.Goals as goal

pub returns : goal.returns
returns c =
    let z = kept_run (in_run c.args.run) c.args.s.now (c.unwrap_or-behind.ensures ∙ run_length (in_run c.args.run) (reverse c.args.s.now)
    (position_from_yields_List (λ b. not (in_run c.args.run b)) c.position.new.self _ c.position.result c.position.ensures.ran (YieldsList-from_rev_slice c.args.s.now cc) (λ x b q k. search (rules, tests))) (sym (length-reverse c.args.s.now))) in
    record { value = z.0; part = z.1 }
