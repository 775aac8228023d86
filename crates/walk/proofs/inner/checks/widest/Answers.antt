-- `walk::inner::checks::widest` meets its contract: the definition is a fold.
-- Assumes nothing.
use Prim.Native.Nat.{max}
use mathlib.Core.Path.{◌∙◌}
use native.Mathlib.Nat.{max-eq_right}
use native.Mathlib.Omega.{arith}
use borrow.Author.Rules.{rules}
use Rattle.std.proofs.lemmas.Iterator.{YieldsList-from_slice}
use Rattle.std.proofs.lemmas.Iterator.Consumers.{fold_from_yields_List}
use Rattle.walk.proofs.Summing.{widest_folded}
use Rattle.walk.proofs.inner.checks.widest.Goals as goal

pub returns : goal.returns
returns c =
    fold_from_yields_List _ max 0 _ c.fold.ensures.ran (YieldsList-from_slice c.args.counts.now c.iter.ensures.rest) (λ a x b q k. search rules)
    ∙ widest_folded 0 c.args.counts.now ∙ max-eq_right (omega arith)
