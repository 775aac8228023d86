-- `attempt::inner::header::miscounted` meets its contract: of whole types the loop has skipped as many as it has made turns (`Skipped`).
-- Assumes nothing.
use Prim.Native.Nat.{ℕ}
use mathlib.Core.Path.{◌≡◌, refl}
use mathlib.Core.Bool.{Bool, true, false}
use native.Mathlib.Omega.{arith}
use borrow.Author.Tests.{ltb-true}
use lib.ListN.{length}
use Rattle.attempt.proofs.Skipping.{skipped_start, skipped_step, skipped_few, skipped_more}
use Rattle.attempt.specs.Attempt.{Types, kinds, is_whole}
use Rattle.attempt.specs.Inner.{Miscounted}
use Rattle.attempt.proofs.inner.header.miscounted.Goals as goal

told : (ts : Types) (n : ℕ) (b : Bool) → (b ≡ true → is_whole ts ≡ true → length (kinds ts) ≡ n → ⊥) → Miscounted ts n b
told ts n true h = h refl
told ts n false h = tt

pub loop-init : goal.loop-init
loop-init c = skipped_start _ _ c.requires.inside _ _ (omega (arith, c.requires.past))

pub returns-then-at-stop : goal.returns-then-at-stop
returns-then-at-stop c = skipped_few _ _ c.requires.inside _ _ _ _ c.if-at-stop.true c.loop-test.true c.loop.invariant

pub loop-preserved : goal.loop-preserved
loop-preserved c = rw c.skip_varint-at.ensures (skipped_step _ _ c.requires.inside _ _ _ c.if-at-stop.false c.loop.invariant)

pub returns : goal.returns
returns c =
    let e : c.loop.counter ≡ c.args.columns = omega arith in
    told _ _ _ (λ t. skipped_more _ _ c.requires.inside _ _ _ (ltb-true _ _ t) (rw e at c.loop.invariant))
