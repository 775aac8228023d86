-- The cells below the top are the stack; pushing pages one after the other.
-- Assumes nothing.
use Prim.Native.Nat.{ℕ, zero, suc, ◌+◌, ◌-◌, ◌≤◌, ◌<◌}
use mathlib.Core.Path.{◌≡◌, refl, sym, ap, ◌∙◌}
use mathlib.Core.Bool.{Bool, true, false, cond}
use mathlib.Core.List.{List, [], ◌∷◌, ◌++◌}
use native.Mathlib.Numerals.{add-one}
use native.Mathlib.Nat.{sub-zero, suc-sub-suc}
use native.Mathlib.Omega.{arith}
use borrow.Author.Tests.{lt-ltb, le-ltb, le-leb, lt-leb, eq-eqb, ne_eqb}
use lib.Dec.{ltb}
use lib.ListN.{length, get_or, set}
use lib.Seq.{get_or-set_same, get_or-set_other}
use Rattle.page.specs.Page.{page_type, cell_count, pointer_at, child_at}
use Rattle.walk.specs.Inner.{tops}
use Rattle.walk.specs.Walk.{child_in, cells_from, kids, Popped, leaf_then, onward, overflow, push_all, page_done}

-- ---- the cells below the top
pub tops_length : (s : List ℕ) (n : ℕ) → length (tops s n) ≡ n
unfolding tops
tops_length s zero = refl
tops_length s (suc n) = ap suc (tops_length s n)

tops_set : (s : List ℕ) (k p n : ℕ) → n ≤ k → tops (set s k p) n ≡ tops s n
unfolding tops
tops_set s k p zero h = refl
tops_set s k p (suc n) h = rw (get_or-set_other s k n p 0 (λ e. omega arith), tops_set s k p n (omega arith))

pub tops_push : (s : List ℕ) (top p : ℕ) → top < length s → tops (set s top p) (top + 1) ≡ p ∷ tops s top
unfolding tops
tops_push s top p h = rw (add-one, get_or-set_same s top p 0 h, tops_set s top p top (omega arith))

pub tops_pop : (s : List ℕ) (t : ℕ) → 0 < t → tops s t ≡ get_or s (t - 1) 0 ∷ tops s (t - 1)
unfolding tops
tops_pop s zero h = absurd (omega arith)
tops_pop s (suc k) h = rw (suc-sub-suc, sub-zero)

pub tops_none : (s : List ℕ) (t : ℕ) → t ≡ 0 → tops s t ≡ []
unfolding tops
tops_none s zero h = refl
tops_none s (suc k) h = absurd (omega arith)

-- ---- one page
module _ (depth p : ℕ) (st : List ℕ) where
  pub push_one : length st < depth → push_all depth (p ∷ []) st ≡ onward (p ∷ st)
  unfolding push_all
  push_one h = simp (lt-ltb (length st) depth h)

  pub push_full : depth ≤ length st → push_all depth (p ∷ []) st ≡ overflow
  unfolding push_all
  push_full h = simp (le-ltb (length st) depth h)

-- ---- one child
module _ (page : List ℕ) (at : ℕ) where
  pub child_past : length page < at + 4 → child_in page at ≡ []
  unfolding child_in
  child_past h = simp (lt-leb (at + 4) (length page) h)

  pub child_there : at + 4 ≤ length page → child_in page at ≡ child_at page at ∷ []
  unfolding child_in
  child_there h = simp (le-leb (at + 4) (length page) h)

-- ---- some pages, and then others
abbrev and_push : Popped → (List ℕ → Popped) → Popped
and_push (leaf_then st) f = leaf_then st
and_push (onward st) f = f st
and_push overflow f = overflow

either_way : (b : Bool) (x y : Popped) (f : List ℕ → Popped) → x ≡ and_push y f → cond b x overflow ≡ and_push (cond b y overflow) f
either_way true x y f e = e
either_way false x y f e = refl

push_append : (depth : ℕ) (a b st : List ℕ) → push_all depth (a ++ b) st ≡ and_push (push_all depth a st) (λ s. push_all depth b s)
unfolding push_all
push_append depth [] b st = refl
push_append depth (p ∷ a) b st = either_way (ltb (length st) depth) (push_all depth (a ++ b) (p ∷ st)) (push_all depth a (p ∷ st)) (λ s. push_all depth b s) (push_append depth a b (p ∷ st))

module _ (depth : ℕ) (a b st : List ℕ) where
  pub push_on : (mid : List ℕ) → push_all depth a st ≡ onward mid → push_all depth (a ++ b) st ≡ push_all depth b mid
  push_on mid e = push_append depth a b st ∙ rw e

  pub push_stop : push_all depth a st ≡ overflow → push_all depth (a ++ b) st ≡ overflow
  push_stop e = push_append depth a b st ∙ rw e

pub push_nil : (depth : ℕ) (st : List ℕ) → push_all depth [] st ≡ onward st
unfolding push_all
push_nil depth st = refl

-- ---- the cells of a page: n of them from `at` on, and m behind the first
cells_step : (n m : ℕ) (page : List ℕ) (at at' : ℕ) → n ≡ suc m → at' ≡ at + 2 → at + 2 ≤ length page
    → cells_from n page at ≡ child_in page (pointer_at page at) ++ cells_from m page at'
unfolding cells_from
cells_step n m page at at' e f h = rw (e, f) (simp (le-leb (at + 2) (length page) h))

cells_cut : (n : ℕ) (page : List ℕ) (at : ℕ) → length page < at + 2 → cells_from n page at ≡ []
unfolding cells_from
cells_cut zero page at h = refl
cells_cut (suc n) page at h = simp (lt-leb (at + 2) (length page) h)

cells_end : (n : ℕ) (page : List ℕ) (at : ℕ) → n ≡ 0 → cells_from n page at ≡ []
unfolding cells_from
cells_end zero page at h = refl
cells_end (suc n) page at h = absurd (omega arith)

module _ (depth n : ℕ) (page : List ℕ) (at : ℕ) (st : List ℕ) where
  module _ (m at' : ℕ) (e : n ≡ suc m) (f : at' ≡ at + 2) (h : at + 2 ≤ length page) where
    pub cells_on : (mid : List ℕ) → onward mid ≡ push_all depth (child_in page (pointer_at page at)) st
        → push_all depth (cells_from m page at') mid ≡ push_all depth (cells_from n page at) st
    cells_on mid g = rw (cells_step n m page at at' e f h) (sym (push_on depth (child_in page (pointer_at page at)) (cells_from m page at') st mid (sym g)))

    pub cells_overflow : overflow ≡ push_all depth (child_in page (pointer_at page at)) st → overflow ≡ push_all depth (cells_from n page at) st
    cells_overflow g = rw (cells_step n m page at at' e f h) (sym (push_stop depth (child_in page (pointer_at page at)) (cells_from m page at') st (sym g)))

  pub cells_past : length page < at + 2 → onward st ≡ push_all depth (cells_from n page at) st
  cells_past h = rw (cells_cut n page at h) (sym (push_nil depth st))

  pub cells_done : n ≡ 0 → onward st ≡ push_all depth (cells_from n page at) st
  cells_done h = rw (cells_end n page at h) (sym (push_nil depth st))

-- ---- a page by its type
module _ (depth : ℕ) (page : List ℕ) (head : ℕ) (st : List ℕ) where
  pub page_leaf : page_type page head ≡ 0x0D → leaf_then st ≡ page_done depth page head st
  unfolding page_done
  page_leaf e = simp (eq-eqb (page_type page head) 0x0D e)

  pub page_other : (page_type page head ≡ 0x0D → ⊥) → (page_type page head ≡ 0x05 → ⊥) → onward st ≡ page_done depth page head st
  unfolding page_done
  page_other n m = simp (ne_eqb (page_type page head) 0x0D n, ne_eqb (page_type page head) 0x05 m)

  page_inner : page_type page head ≡ 0x05 → page_done depth page head st ≡ push_all depth (child_in page (head + 8) ++ cells_from (cell_count page head) page (head + 12)) st
  unfolding page_done kids
  page_inner e = simp (ne_eqb (page_type page head) 0x0D (λ n. omega arith), eq-eqb (page_type page head) 0x05 e)

  pub inner_on : (mid : List ℕ) (o : Popped) → page_type page head ≡ 0x05 → onward mid ≡ push_all depth (child_in page (head + 8)) st
      → o ≡ push_all depth (cells_from (cell_count page head) page (head + 12)) mid → o ≡ page_done depth page head st
  inner_on mid o e f g = g ∙ sym (push_on depth (child_in page (head + 8)) (cells_from (cell_count page head) page (head + 12)) st mid (sym f)) ∙ sym (page_inner e)

  pub inner_overflow : page_type page head ≡ 0x05 → overflow ≡ push_all depth (child_in page (head + 8)) st → overflow ≡ page_done depth page head st
  inner_overflow e f = sym (push_stop depth (child_in page (head + 8)) (cells_from (cell_count page head) page (head + 12)) st (sym f)) ∙ sym (page_inner e)
