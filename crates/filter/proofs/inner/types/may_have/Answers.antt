-- `filter::inner::types::may_have` meets its contract.
-- Assumes nothing.
use Prim.Native.Nat.{ℕ}
use mathlib.Core.Path.{◌≡◌, refl, sym, ◌∙◌}
use mathlib.Core.Bool.{Bool, true, false, not, false≢true}
use native.Mathlib.Omega.{arith}
use borrow.Author.Tests.{ltb-true}
use lib.ListN.{length}
use Rattle.attempt.specs.Attempt.{Types, kinds, is_whole}
use Rattle.filter.specs.Inner.{MayHave}
use Rattle.filter.proofs.Headers.{unfit, all_and_more}
use Rattle.filter.proofs.inner.types.may_have.Goals as goal
use Rattle.filter.proofs.inner.types.may_have.Goals.{then-all_low, else-all_low}

told : (ts : Types) (n : ℕ) (b : Bool) → (b ≡ true → is_whole ts ≡ true → length (kinds ts) ≡ n → ⊥) → MayHave ts n (not b)
told ts n true h = h refl
told ts n false h = tt

pub returns-then-head-columns : goal.returns-then-head-columns
returns-then-head-columns c = unfit _ _ _ _ c.requires.0 c.requires.1 (λ lt le. omega (arith, c.if-head-columns.true))

pub returns : goal.returns
returns c =
    told _ _ _
    (λ t.
    elim c.if-all_low.branch [
      | then-all_low w ↦ all_and_more _ _ _ _ c.if-head-columns.false c.requires.1 (rw w.if-all_low.true at c.all_low.ensures) (ltb-true _ _ (sym w.result-is ∙ t))
      | else-all_low w ↦ absurd (false≢true (sym w.if-all_low.false ∙ (sym w.result-is ∙ t)))
    ])
