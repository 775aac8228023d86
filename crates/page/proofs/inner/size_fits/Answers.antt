-- `page::inner::size_fits` meets its contract: the arm's keys are the sizes.
-- Assumes nothing.
use Prim.Native.Nat.{ℕ}
use mathlib.Core.Path.{◌≡◌, refl, sym}
use mathlib.Core.Bool.{Bool, true, false, ◌||◌}
use mathlib.Core.List.{List, [], ◌∷◌}
use mathlib.Core.Logic.{◌⊎◌, inl, inr}
use borrow.Author.Tests.{eq-eqb, ne_eqb}
use lib.Dec.{eqb}
use borrow.Author.Rules.{rules}
use Rattle.page.specs.Page.{among, size_fits}
use Rattle.page.proofs.inner.size_fits.Goals as goal

-- x is k or one of ks, as an arm says it
abbrev OneOf : ℕ → ℕ → List ℕ → Type 0
OneOf x k [] = x ≡ k
OneOf x k (m ∷ ms) = (x ≡ k) ⊎ OneOf x m ms

or_true : (b c : Bool) → c ≡ true → (b || c) ≡ true
or_true true c h = refl
or_true false c h = h

one_of : (x k : ℕ) (ms : List ℕ) → OneOf x k ms → among x (k ∷ ms) ≡ true
one_of x k [] e = simp (eq-eqb x k e)
one_of x k (m ∷ ms) (inl e) = simp (eq-eqb x k e)
one_of x k (m ∷ ms) (inr r) = or_true (eqb x k) (among x (m ∷ ms)) (one_of x m ms r)

none_of : (x k : ℕ) (ms : List ℕ) → (OneOf x k ms → ⊥) → among x (k ∷ ms) ≡ false
none_of x k [] n = simp (ne_eqb x k n)
none_of x k (m ∷ ms) n = rw (ne_eqb x k (λ e. n (inl e))) (none_of x m ms (λ r. n (inr r)))

-- the sizes behind 512
abbrev behind : List ℕ
behind = 1024 ∷ 2048 ∷ 4096 ∷ 8192 ∷ 16384 ∷ 32768 ∷ 65536 ∷ []

pub returns-in-512 : goal.returns-in-512
unfolding size_fits
returns-in-512 c = sym (one_of c.args.size 512 behind c.in-512.is)

pub returns-in_default : goal.returns-in_default
unfolding size_fits
returns-in_default c = sym (none_of c.args.size 512 behind (search rules))
