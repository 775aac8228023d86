-- Laws of the table of counters: counting a list up makes it right, and setting the list's types back makes it clear.
-- Assumes nothing.
use Prim.Native.Nat.{ℕ, ◌+◌, ◌≤◌, ◌<◌}
use mathlib.Core.Path.{◌≡◌, ◌∙◌}
use mathlib.Core.List.{List, []}
use mathlib.Core.Logic.{by_cases}
use native.Mathlib.Decide.{ℕ_discrete}
use native.Mathlib.Omega.{arith}
use borrow.Author.Tests.{eq-eqb, ne_eqb}
use lib.ListN.{length, get_or, set, drop, replicate, length-set, length-replicate, get_or-replicate, get_or-eq_default, drop_of_length-le}
use lib.Seq.{get_or-set_same, get_or-set_other}
use Rattle.record.proofs.Numbers.{by_order}
use Rattle.learn.specs.Inner.{Tallied}
use Rattle.learn.specs.Types.{count_in}
use Rattle.learn.proofs.Counting.{item_next, Counted, counted_none, counted_more, counted_all}

pub tallied_none : (n : ℕ) → Tallied (replicate n 0) []
unfolding count_in
tallied_none n k h = get_or-replicate {0} {A = ℕ} n k 0 0 (rw (length-replicate {0} {A = ℕ} n 0) at h)

-- ---- counting: the first i items are counted
pub record Tallying (table ts : List ℕ) (i : ℕ) : Type 0 where
  pub inside : i ≤ length ts
  pub each : (k : ℕ) → k < length table → Counted ts k i (get_or table k 0)

pub tallying_none : {table : List ℕ} (ts : List ℕ) → Tallied table [] → Tallying table ts 0
unfolding count_in
tallying_none ts clear = record { inside = omega arith; each = λ k h. rw (clear k h) (counted_none ts k) }

module _ {table ts : List ℕ} {i : ℕ} (t : Tallying table ts i) where
  pub tallying_most : (k : ℕ) → get_or table k 0 ≤ i
  tallying_most k = by_order k (length table) (λ h. (t.each k h).most) (λ out. rw (get_or-eq_default table 0 out) (omega arith))

  pub tallying_more : {new : List ℕ} → i < length ts → new ≡ set table (get_or ts i 0) (get_or table (get_or ts i 0) 0 + 1) → Tallying new ts (i + 1)
  tallying_more {new} more e =
      record { inside = omega arith; each = λ k h. rw e (one k (rw (e, length-set table u n) at h)) }
    where
      u : ℕ
      u = get_or ts i 0

      n : ℕ
      n = get_or table u 0 + 1

      one : (k : ℕ) → k < length table → Counted ts k (i + 1) (get_or (set table u n) k 0)
      one k h =
          by_cases (ℕ_discrete k u)
          (λ same.
          let is : get_or (set table u n) k 0 ≡ get_or table k 0 + 1 = rw same (get_or-set_same table u n 0 (rw same at h)) in
          rw is (counted_more (t.each k h) 1 more (rw (eq-eqb k u same)) (omega arith)))
          (λ other.
          let is : get_or (set table u n) k 0 ≡ get_or table k 0 + 0 = get_or-set_other table u k n 0 other ∙ omega arith in
          rw is (counted_more (t.each k h) 0 more (rw (ne_eqb k u other)) (omega arith)))

  pub tallying_all : length ts ≤ i → Tallied table ts
  tallying_all end k h = counted_all (t.each k h) end

-- ---- setting back: only the items from i on may still have a count
pub record Clearing (table ts : List ℕ) (i : ℕ) : Type 0 where
  pub inside : i ≤ length ts
  pub clear : (k : ℕ) → k < length table → count_in k (drop i ts) ≡ 0 → get_or table k 0 ≡ 0

pub clearing_none : {table ts : List ℕ} → Tallied table ts → Clearing table ts 0
clearing_none t = record { inside = omega arith; clear = λ k h none. t k h ∙ none }

module _ {table ts : List ℕ} {i : ℕ} (c : Clearing table ts i) where
  pub clearing_more : {new : List ℕ} → i < length ts → new ≡ set table (get_or ts i 0) 0 → Clearing new ts (i + 1)
  unfolding count_in
  clearing_more {new} more e =
      record { inside = omega arith; clear = λ k h none. rw e (one k (rw (e, length-set table u 0) at h) none) }
    where
      u : ℕ
      u = get_or ts i 0

      one : (k : ℕ) → k < length table → count_in k (drop (i + 1) ts) ≡ 0 → get_or (set table u 0) k 0 ≡ 0
      one k h none =
          by_cases (ℕ_discrete k u)
          (λ same. rw same (get_or-set_same table u 0 0 (rw same at h)))
          (λ other.
          let left : count_in k (drop i ts) ≡ 0 = rw (item_next ts i more, ne_eqb k u other) (omega arith) in
          get_or-set_other table u k 0 0 other ∙ c.clear k h left)

  pub clearing_all : length ts ≤ i → Tallied table []
  unfolding count_in
  clearing_all end k h = c.clear k h (rw (drop_of_length-le ts end))
