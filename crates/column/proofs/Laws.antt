-- A constraint's word stands at a piece's front.
-- Assumes nothing.
use Prim.Native.Nat.{ℕ}
use Prim.Native.String.{String}
use mathlib.Core.Path.{◌≡◌, sym, ◌∙◌}
use mathlib.Core.Bool.{Bool, true, false, false≢true, or-true}
use mathlib.Core.List.{List, [], ◌∷◌, map}
use Rattle.record.proofs.Numbers.{by_test}
use Rattle.words.specs.Words.{bytes, starts_with, equals, starting, whole, meets_more}
use Rattle.words.proofs.Held.{starts_run, starts_before, starts_equal}
use Rattle.column.specs.Column.{constraints, begins_as_constraint, name_of, is_constraint}

-- a piece whose name is a word starts with it
name_starts : (w p : List ℕ) → equals w (name_of p) ≡ true → starts_with w p ≡ true
unfolding name_of
name_starts w p h = starts_run _ w p (starts_before _ w _ (starts_before _ w _ (starts_equal w _ h)))

-- so where it starts with none of several words, its name is none of them
no_name : (ws : List String) (p : List ℕ) {is begins : Bool} → (is ≡ true → begins ≡ true) → meets_more begins (map starting ws) p ≡ false →
    meets_more is (map whole ws) (name_of p) ≡ false
no_name [] p {is} then none = by_test is (λ t. absurd (false≢true (sym none ∙ then t))) (λ f. f)
no_name (w ∷ ws) p {is} {begins} then none =
    no_name ws p
    (λ e. by_test is (λ t. rw (then t)) (λ f. rw (name_starts (bytes w) p (rw f at e)) (or-true begins)))
    none

-- THE LAW: a piece that does not begin as a constraint is none
pub no_constraint : (p : List ℕ) → begins_as_constraint p ≡ false → is_constraint (name_of p) ≡ false
no_constraint p none = no_name constraints p {is = false} {begins = false} (λ e. e) none
