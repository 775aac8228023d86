-- Laws of counting: the commonest type is one alone, seeking it through the list finds it, and the order of the list does not matter.
-- Assumes nothing.
use Rattle.std.proofs.lemmas.List.Recursion.{is_sum_by}
use Rattle.std.specs.Prelude.{count_by}
use Prim.Native.Nat.{ℕ, ◌+◌, ◌≤◌, ◌<◌}
use mathlib.Core.Path.{◌≡◌, refl, sym, ◌∙◌}
use mathlib.Core.Bool.{cond}
use mathlib.Core.List.{List, [], ◌∷◌, ◌++◌}
use native.Mathlib.Nat.{min-eq_left, min-eq_right}
use native.Mathlib.Numerals.{add-one}
use native.Mathlib.Omega.{arith}
use borrow.Author.Tests.{lt-ltb, le-ltb, eq-eqb, eqb-true}
use lib.Dec.{eqb}
use lib.ListN.{length, get_or, drop, drop_of_length-le}
use lib.Seq.{drop-cons}
use Rattle.record.proofs.Numbers.{by_order, by_test}
use Rattle.learn.specs.Inner.{Counts}
use Rattle.learn.specs.Types.{count_in, IsCommonest, better, best_of, commonest_of}
use Rattle.learn.specs.declared.learn.Leader.{Leader}

-- as the library counts
pub count_is : (t : ℕ) (ts : List ℕ) → count_by (λ u. eqb t u) ts ≡ count_in t ts
unfolding count_in
count_is t ts = sym (is_sum_by (λ us. count_in t us) (λ u. cond (eqb t u) 1 0) refl (λ _ _. refl) ts)

-- ---- how often a type occurs
pub count_append : (t : ℕ) (xs ys : List ℕ) → count_in t (xs ++ ys) ≡ count_in t xs + count_in t ys
unfolding count_in
count_append t [] ys = omega arith
count_append t (x ∷ xs) ys = omega (arith, count_append t xs ys)

count_head : (t : ℕ) (ts : List ℕ) → 0 < count_in t (t ∷ ts)
unfolding count_in
count_head t ts = rw (eq-eqb t t refl) (omega arith)

-- ---- one type is the commonest
-- THE LAW: any two types that are are equal
pub commonest_one : (ts : List ℕ) (t u : ℕ) → IsCommonest t ts → IsCommonest u ts → t ≡ u
commonest_one ts t u p q =
    let same : count_in u ts ≡ count_in t ts = omega (arith, p.most u, q.most t) in
    omega (arith, p.smallest u same, q.smallest t (sym same))

-- t comes before u, or is u
abbrev First : List ℕ → ℕ → ℕ → Type 0
First ts t u = (count_in u ts ≤ count_in t ts) × (count_in u ts ≡ count_in t ts → t ≤ u)

module _ (ts : List ℕ) where
  first_trans : {a b c : ℕ} → First ts a b → First ts b c → First ts a c
  first_trans {a} {b} {c} p q =
      let x = p.0 in
      let y = q.0 in
      (omega arith, λ e. omega (arith, p.1 (omega arith), q.1 (omega arith)))

  module _ (t u : ℕ) where
    pub better_new : count_in t ts < count_in u ts → better ts t u ≡ u
    unfolding better
    better_new h = simp (lt-ltb _ _ h)

    pub better_old : count_in u ts < count_in t ts → better ts t u ≡ t
    unfolding better
    better_old h = simp (le-ltb (count_in t ts) (count_in u ts) (omega arith), lt-ltb _ _ h)

    -- of types that occur as often
    module _ (same : count_in t ts ≡ count_in u ts) where
      pub better_left : t ≤ u → better ts t u ≡ t
      unfolding better
      better_left h = simp (le-ltb (count_in t ts) (count_in u ts) (omega arith), le-ltb (count_in u ts) (count_in t ts) (omega arith)) (min-eq_left h)

      pub better_right : u ≤ t → better ts t u ≡ u
      unfolding better
      better_right h = simp (le-ltb (count_in t ts) (count_in u ts) (omega arith), le-ltb (count_in u ts) (count_in t ts) (omega arith)) (min-eq_right h)

    better_first : First ts (better ts t u) t × First ts (better ts t u) u
    better_first =
        by_order (count_in t ts) (count_in u ts)
        (λ new. rw (better_new new) ((omega arith, λ e. absurd (omega arith)), (omega arith, λ e. omega arith)))
        λ le.
        by_order (count_in u ts) (count_in t ts)
        (λ old. rw (better_old old) ((omega arith, λ e. omega arith), (omega arith, λ e. absurd (omega arith))))
        λ ge.
        by_order t u
        (λ low. rw (better_left (omega arith) (omega arith)) ((omega arith, λ e. omega arith), (omega arith, λ e. omega arith)))
        (λ high. rw (better_right (omega arith) (omega arith)) ((omega arith, λ e. omega arith), (omega arith, λ e. omega arith)))

  pub better_self : (t : ℕ) → better ts t t ≡ t
  better_self t = better_left t t refl (omega arith)

  -- the best comes before the type that it began with,
  best_start : (t : ℕ) (us : List ℕ) → First ts (best_of ts t us) t
  unfolding best_of
  best_start t [] = (omega arith, λ e. omega arith)
  best_start t (u ∷ us) = first_trans (best_start (better ts t u) us) (better_first t u).0

  -- and before all others
  best_all : (t : ℕ) (us : List ℕ) (v : ℕ) → 0 < count_in v us → First ts (best_of ts t us) v
  unfolding best_of count_in
  best_all t [] v h = absurd (omega arith)
  best_all t (u ∷ us) v h =
      by_test (eqb v u)
      (λ e. rw (eqb-true v u e) (first_trans (best_start (better ts t u) us) (better_first t u).1))
      (λ e. let rest = rw e at h in best_all (better ts t u) us v (omega arith))

-- THE LAW: the best of all types is the commonest
pub commonest_is : (t : ℕ) (ts : List ℕ) → IsCommonest (commonest_of (t ∷ ts)) (t ∷ ts)
unfolding commonest_of
commonest_is t ts =
    let all = t ∷ ts in
    let some = count_head t ts in
    let best = best_all all 0 all in
    let occurs : 0 < count_in (best_of all 0 all) all = omega (arith, (best t some).0) in
    record {
      occurs = occurs;
      most = λ u. by_order 0 (count_in u all) (λ h. (best u h).0) (λ h. omega arith);
      smallest = λ u e. (best u (omega arith)).1 e;
    }

-- THE LAW: lists in which each type occurs as often have the same commonest type
pub commonest_same : (xs ys : List ℕ) → ((t : ℕ) → count_in t xs ≡ count_in t ys) → commonest_of xs ≡ commonest_of ys
unfolding count_in
commonest_same [] [] same = refl
commonest_same [] (y ∷ ys) same = absurd (omega (arith, same y, count_head y ys))
commonest_same (x ∷ xs) [] same = absurd (omega (arith, same x, count_head x xs))
commonest_same (x ∷ xs) (y ∷ ys) same =
    let c = commonest_is y ys in
    let t = commonest_of (y ∷ ys) in
    commonest_one (x ∷ xs) _ t (commonest_is x xs)
    (record {
      occurs = rw (same t) c.occurs;
      most = λ u. rw (same u, same t) (c.most u);
      smallest = λ u e. c.smallest u (sym (same u) ∙ e ∙ same t);
    })

-- ---- along a list
pub item_next : (ts : List ℕ) (i : ℕ) → i < length ts → drop i ts ≡ get_or ts i 0 ∷ drop (i + 1) ts
item_next ts i h = rw (add-one) (drop-cons ts i 0 h)

-- n of the first i items are the type
pub record Counted (ts : List ℕ) (t i n : ℕ) : Type 0 where
  pub inside : i ≤ length ts
  pub most : n ≤ i
  pub count : n + count_in t (drop i ts) ≡ count_in t ts

pub counted_none : (ts : List ℕ) (t : ℕ) → Counted ts t 0 0
counted_none ts t = record { inside = omega arith; most = omega arith; count = omega arith }

module _ {ts : List ℕ} {t i n : ℕ} (c : Counted ts t i n) where
  pub counted_more : (k : ℕ) → i < length ts → k ≡ cond (eqb t (get_or ts i 0)) 1 0 → k ≤ 1 → Counted ts t (i + 1) (n + k)
  unfolding count_in
  counted_more k h e small =
      let next : count_in t (drop i ts) ≡ cond (eqb t (get_or ts i 0)) 1 0 + count_in t (drop (i + 1) ts) = rw (item_next ts i h) in
      record { inside = omega arith; most = omega (arith, c.most); count = omega (arith, c.count) }

  pub counted_all : length ts ≤ i → n ≡ count_in t ts
  unfolding count_in
  counted_all h =
      let none : count_in t (drop i ts) ≡ 0 = rw (drop_of_length-le ts h) in
      omega (arith, c.count)

-- the leader is the best of the first i items
pub record Led (ts : List ℕ) (i : ℕ) (l : Leader) : Type 0 where
  pub inside : i ≤ length ts
  pub counts : Counts ts l
  pub best : best_of ts l.kind (drop i ts) ≡ commonest_of ts

pub led_none : (ts : List ℕ) (n : ℕ) → n ≡ count_in 0 ts → Led ts 0 (record { kind = 0; count = n })
unfolding commonest_of
led_none ts n e = record { inside = omega arith; counts = e; best = refl }

module _ {ts : List ℕ} {i : ℕ} {l : Leader} (h : Led ts i l) where
  pub led_more : (m : Leader) → i < length ts → m.kind ≡ better ts l.kind (get_or ts i 0) → Counts ts m → Led ts (i + 1) m
  unfolding best_of
  led_more m lt e counts =
      record { inside = omega arith; counts = counts; best = rw e (rw (item_next ts i lt) at h.best) }

  pub led_all : length ts ≤ i → l.kind ≡ commonest_of ts
  unfolding best_of
  led_all ge = rw (drop_of_length-le ts ge) at h.best
