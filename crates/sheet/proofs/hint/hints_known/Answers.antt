-- `sheet::hint::hints_known` meets its contract: the definition is the library's test of all elements.
-- Assumes nothing.
use Prim.Native.Nat.{ℕ}
use mathlib.Core.Path.{◌≡◌, refl, ◌∙◌}
use mathlib.Core.List.{List, [], ◌∷◌}
use borrow.Author.Rules.{rules}
use lib.Dec.{leb}
use Rattle.std.proofs.lemmas.Iterator.{YieldsList-from_slice}
use Rattle.std.proofs.lemmas.Iterator.Search.{all_from_yields_List}
use Rattle.std.specs.List.{list_all}
use Rattle.sheet.specs.Limits.{highest_hint, hints_known}
use Rattle.sheet.proofs.hint.hints_known.Goals as goal

each_known : (hs : List ℕ) → list_all (λ h. leb h highest_hint) hs ≡ hints_known hs
unfolding hints_known
each_known [] = refl
each_known (h ∷ hs) = rw (each_known hs)

pub returns : goal.returns
returns c =
    all_from_yields_List (λ h. leb h highest_hint) _ _ _ c.all.ensures.ran (YieldsList-from_slice c.args.hints.now c.iter.ensures.rest) (λ x b q k. search rules)
    ∙ each_known c.args.hints.now
