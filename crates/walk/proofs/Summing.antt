-- Counts of columns one by one: each fits, their sum, and the widest.
-- Assumes nothing.
use Prim.Native.Nat.{ℕ, zero, suc, ◌+◌, ◌-◌, ◌≤◌, ◌<◌, max}
use mathlib.Core.Path.{◌≡◌, refl, sym, ◌∙◌}
use mathlib.Core.Bool.{true, false, and-eq-true_iff}
use mathlib.Core.List.{List, [], ◌∷◌}
use mathlib.Core.Logic.{by_cases}
use native.Mathlib.Decide.{ℕ_discrete}
use native.Mathlib.Nat.{le_of_lt, le_trans, le-max_left, le-max_right, max-zero, max-eq_left, max-eq_right}
use native.Mathlib.Numerals.{add-one}
use native.Mathlib.Omega.{arith}
use borrow.Author.Tests.{eq-eqb, ne_eqb}
use lib.Dec.{eqb}
use lib.ListN.{length, get_or, drop, drop_of_length-le}
use lib.Seq.{drop-cons}
use Rattle.std.specs.List.{list_all, fold}
use Rattle.record.proofs.Numbers.{by_order}
use Rattle.sheet.specs.Limits.{count_fits}
use Rattle.walk.specs.Carve.{sum_of, widest, counts_fit}

module _ (cs : List ℕ) (i : ℕ) where
  module _ (h : i < length cs) where
    pub sum_at : sum_of (drop i cs) ≡ get_or cs i 0 + sum_of (drop (i + 1) cs)
    sum_at = rw (add-one, drop-cons cs i 0)

  pub none_left : length cs ≤ i → drop i cs ≡ []
  none_left h = drop_of_length-le cs h

-- of `total` so much is left behind the counts before i
abbrev pub Left : List ℕ → ℕ → ℕ → ℕ → Type 0
Left cs total i left = sum_of cs + left ≡ total + sum_of (drop i cs)

module _ (cs : List ℕ) (total i left : ℕ) (w : Left cs total i left) where
  pub left_more : i < length cs → get_or cs i 0 ≤ left → Left cs total (i + 1) (left - get_or cs i 0)
  left_more h le = omega (arith, sum_at cs i h)

  -- a count takes more than is left
  pub left_short : i < length cs → left < get_or cs i 0 → false ≡ eqb (sum_of cs) total
  left_short h lt = let s = sum_at cs i h in sym (ne_eqb (sum_of cs) total (λ e. omega arith))

  pub left_all : length cs ≤ i → eqb left 0 ≡ eqb (sum_of cs) total
  left_all h =
      let none : sum_of (drop i cs) ≡ 0 = rw (none_left cs i h) in
      by_cases (ℕ_discrete left 0)
      (λ z. eq-eqb left 0 z ∙ sym (eq-eqb (sum_of cs) total (omega arith)))
      (λ z. ne_eqb left 0 z ∙ sym (ne_eqb (sum_of cs) total (λ e. z (omega arith))))

-- ---- the larger of three
max_assoc : (a b c : ℕ) → max a (max b c) ≡ max (max a b) c
max_assoc a b c =
    by_order a b
    (λ ab. rw (max-eq_right (le_of_lt ab))
    (by_order b c (λ bc. rw (max-eq_right (le_of_lt bc)) (max-eq_right (omega arith))) (λ cb. rw (max-eq_left cb) (max-eq_right (le_of_lt ab)))))
    (λ ba. rw (max-eq_left ba)
    (by_order b c (λ bc. rw (max-eq_right (le_of_lt bc))) (λ cb. rw (max-eq_left cb) (max-eq_left ba ∙ sym (max-eq_left (omega arith))))))

pub widest_folded : (m : ℕ) (cs : List ℕ) → fold max m cs ≡ max m (widest cs)
widest_folded m [] = sym (max-zero m)
widest_folded m (c ∷ cs) = widest_folded (max m c) cs ∙ sym (max_assoc m c (widest cs))

-- ---- the test of all counts
pub each_fits : (cs : List ℕ) → list_all count_fits cs ≡ counts_fit cs
each_fits [] = refl
each_fits (c ∷ cs) = rw (each_fits cs)

-- ---- one of the counts
pub count_at : (cs : List ℕ) (i : ℕ) → counts_fit cs ≡ true → i < length cs → count_fits (get_or cs i 0) ≡ true
count_at [] i e h = absurd (omega arith)
count_at (c ∷ cs) zero e h = ((and-eq-true_iff (count_fits c) (counts_fit cs)).0 e).0
count_at (c ∷ cs) (suc i) e h = count_at cs i ((and-eq-true_iff (count_fits c) (counts_fit cs)).0 e).1 (omega arith)

pub widest_least : (cs : List ℕ) (i : ℕ) → i < length cs → get_or cs i 0 ≤ widest cs
widest_least [] i h = absurd (omega arith)
widest_least (c ∷ cs) zero h = le-max_left c (widest cs)
widest_least (c ∷ cs) (suc i) h = le_trans (widest_least cs i (omega arith)) (le-max_right c (widest cs))
