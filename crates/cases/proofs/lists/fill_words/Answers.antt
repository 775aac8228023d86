-- `cases::lists::fill_words` meets its contract: the closure gives each cell what the definition has for its place.
-- Assumes nothing.
use Rattle.std.proofs.Common.{rules}
use Rattle.cases.proofs.Cellwise.{filled_by}
use Rattle.cases.proofs.lists.fill_words.Goals as goal

pub returns-clause-cells : goal.returns-clause-cells
returns-clause-cells c = filled_by _ _ _ _ (search rules) (λ i lt. search (rules, c.fill.ensures.1 i lt 0))
