-- `walk::inner::checks::counts_fit` meets its contract: the definition is the library's test of all elements.
-- Assumes nothing.
use mathlib.Core.Path.{◌∙◌}
use borrow.Author.Rules.{rules}
use Rattle.std.proofs.lemmas.Iterator.{YieldsList-from_slice}
use Rattle.std.proofs.lemmas.Iterator.Search.{all_from_yields_List}
use Rattle.sheet.specs.Limits.{count_fits}
use Rattle.walk.proofs.Summing.{each_fits}
use Rattle.walk.proofs.inner.checks.counts_fit.Goals as goal

pub returns : goal.returns
returns c =
    all_from_yields_List count_fits _ _ _ c.all.ensures.ran (YieldsList-from_slice c.args.counts.now c.iter.ensures.rest) (λ x b q k. search rules)
    ∙ each_fits c.args.counts.now
