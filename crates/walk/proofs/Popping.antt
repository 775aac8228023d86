-- Popping a page: what it comes to, that it brings the walk on, and that it uses up something.
-- Assumes nothing.
use Rattle.std.specs.Prelude.{Some, None, Ok, Err}
use Prim.Native.Nat.{ℕ, zero, suc, ◌+◌, ◌-◌, ◌*◌, ◌/◌, ◌≤◌, ◌<◌}
use mathlib.Core.Path.{◌≡◌, refl, sym, ap, ◌∙◌}
use mathlib.Core.Bool.{Bool, true, false, cond, and-eq-true_iff}
use mathlib.Core.List.{List, [], ◌∷◌}
use native.Mathlib.Nat.{suc-mul}
use native.Mathlib.Omega.{arith}
use borrow.Author.Tests.{eqb-true, eq-eqb, ne_eqb}
use lib.Dec.{eqb}
use lib.ListN.{length, get_or, set, take}
use lib.Seq.{length-take-le, get_or-take}
use Rattle.page.proofs.Laws.{there_page, page_there, page_zero, page_behind}
use Rattle.page.specs.Page.{has_page, page_of, head_of}
use Rattle.walk.specs.Walk.{Popped, leaf_then, onward, overflow, page_done, fresh, marked, popped, through, from_popped, walk_from}
use Rattle.walk.specs.Inner.{zeros, need, rest, held, depth_of, Keeps, NextSays}
use Rattle.walk.specs.declared.inner.Overflow.{Overflow}
use Rattle.walk.specs.declared.inner.Stack.{Stack}
use Rattle.walk.proofs.Laws.{keeps_then}
use Rattle.walk.proofs.Pushing.{tops_length}

-- ---- whether a page is expanded
fresh_true : (len size : ℕ) (marks : List ℕ) (p : ℕ) → fresh len size marks p ≡ true → (1 ≤ p) × (p ≤ len / size) × (get_or marks (p - 1) 0 ≡ 0)
unfolding fresh
fresh_true len size marks p h =
    let b = (and-eq-true_iff (has_page len size p) (eqb (get_or marks (p - 1) 0) 0)).0 h in
    let t = there_page len size p b.0 in
    (t.0, t.1, eqb-true (get_or marks (p - 1) 0) 0 b.1)

module _ (len size : ℕ) (flags : List ℕ) (p : ℕ) where
  pub fresh_zero : p ≡ 0 → fresh len size (take (len / size) flags) p ≡ false
  unfolding fresh
  fresh_zero h = simp (page_zero len size p h)

  module _ (some : 1 ≤ p) where
    pub fresh_absent : len / size < p → fresh len size (take (len / size) flags) p ≡ false
    unfolding fresh
    fresh_absent h = simp (page_behind len size p h)

    pub fresh_seen : p ≤ len / size → (get_or flags (p - 1) 0 ≡ 0 → ⊥) → fresh len size (take (len / size) flags) p ≡ false
    unfolding fresh
    fresh_seen h n = simp (page_there len size p some h, get_or-take (len / size) flags (p - 1) 0 (omega arith), ne_eqb (get_or flags (p - 1) 0) 0 n)

    pub fresh_new : p ≤ len / size → get_or flags (p - 1) 0 ≡ 0 → fresh len size (take (len / size) flags) p ≡ true
    unfolding fresh
    fresh_new h e = simp (page_there len size p some h, get_or-take (len / size) flags (p - 1) 0 (omega arith), eq-eqb (get_or flags (p - 1) 0) 0 e)

module _ (db : List ℕ) (size depth : ℕ) (marks : List ℕ) (p : ℕ) (st : List ℕ) where
  pub stale_goes : fresh (length db) size marks p ≡ false → onward st ≡ popped db size depth marks p st
  unfolding popped
  stale_goes e = simp e

  pub new_goes : fresh (length db) size marks p ≡ true → page_done depth (page_of db size p) (head_of p) st ≡ popped db size depth marks p st
  unfolding popped
  new_goes e = simp e

  -- a leaf is a page that is there
  pub leaf_there : (t : List ℕ) → leaf_then t ≡ popped db size depth marks p st → (1 ≤ p) × (p ≤ length db / size)
  unfolding popped
  leaf_there t e = go (fresh (length db) size marks p) refl e
    where
      go : (b : Bool) → fresh (length db) size marks p ≡ b → leaf_then t ≡ cond b (page_done depth (page_of db size p) (head_of p) st) (onward st) → (1 ≤ p) × (p ≤ length db / size)
      go true f d = let h = fresh_true (length db) size marks p f in (h.0, h.1)
      go false f d = absurd (let z : ◌≡◌ {A = ℕ} 0 1 = cc in omega arith)

module _ (len size : ℕ) (marks : List ℕ) (p : ℕ) where
  pub stale_marks : fresh len size marks p ≡ false → marks ≡ marked len size marks p
  unfolding marked
  stale_marks e = simp e

  pub new_marks : fresh len size marks p ≡ true → set marks (p - 1) 1 ≡ marked len size marks p
  unfolding marked
  new_marks e = simp e

-- ---- something is used up
zeros_set : (ms : List ℕ) (i : ℕ) → i < length ms → get_or ms i 0 ≡ 0 → zeros ms ≡ suc (zeros (set ms i 1))
unfolding zeros
zeros_set [] i h e = absurd (omega arith)
zeros_set (m ∷ ms) zero h e = simp (eq-eqb m 0 e) (omega arith)
zeros_set (m ∷ ms) (suc i) h e = omega (arith, zeros_set ms i (omega arith) e)

abbrev pub stack_of : Popped → List ℕ
stack_of (leaf_then st) = st
stack_of (onward st) = st
stack_of overflow = []

pub used_up : (db : List ℕ) (size depth : ℕ) (marks : List ℕ) (p : ℕ) (st : List ℕ) → length marks ≡ length db / size
    → length (stack_of (popped db size depth marks p st)) ≤ depth
    → zeros (marked (length db) size marks p) * (depth + 1) + length (stack_of (popped db size depth marks p st)) < zeros marks * (depth + 1) + suc (length st)
used_up db size depth marks p st l h = by (fresh (length db) size marks p) refl where
  by : (b : Bool) → fresh (length db) size marks p ≡ b
      → zeros (marked (length db) size marks p) * (depth + 1) + length (stack_of (popped db size depth marks p st)) < zeros marks * (depth + 1) + suc (length st)
  by true e =
      let f = fresh_true _ _ _ _ e in
      let z = zeros_set marks (p - 1) (omega arith) f.2 in
      rw (← new_marks (length db) size marks p e, z, suc-mul (zeros (set marks (p - 1) 1)) (depth + 1)) (omega arith)
  by false e = rw (← stale_marks (length db) size marks p e, ← stale_goes db size depth marks p st e) (omega arith)

-- the page p is popped off a stack, st stays, and o is what comes of it
pub record Pops (db : List ℕ) (size : ℕ) (flags : List ℕ) (s : Stack) (p : ℕ) (st flags' : List ℕ) (s' : Stack) (o : Popped) : Type 0 where
  pub top : held s ≡ p ∷ st
  pub flagged : length db / size ≤ length flags
  pub is : o ≡ popped db size (depth_of s) (take (length db / size) flags) p st
  pub marks : take (length db / size) flags' ≡ marked (length db) size (take (length db / size) flags) p
  pub kept : Keeps s s'
  pub flags_long : length flags' ≡ length flags

module _ (db : List ℕ) (size : ℕ) (flags : List ℕ) (s : Stack) (p : ℕ) (st flags' : List ℕ) (s' : Stack) (o : Popped) (v : Pops db size flags s p st flags' s' o) where
  pops_top : s.top ≡ suc (length st)
  pops_top = sym (tops_length s.pages.now s.top) ∙ ap (λ (l : List ℕ). length l) v.top

  pub pops_less : length (stack_of o) ≡ s'.top → need (length db / size) (depth_of s') flags' s'.top < need (length db / size) (depth_of s) flags s.top
  unfolding need
  pops_less e =
      let fits : s'.top ≤ depth_of s = omega (arith, v.kept.inside, v.kept.depth) in
      let u = used_up db size (depth_of s) (take (length db / size) flags) p st (length-take-le _ _ v.flagged) in
      let w = rw (← v.is, e) at u in
      rw (v.marks, v.kept.depth) (omega (arith, w fits, pops_top))

  -- if the fuel is enough, there is some, and the walk goes by what comes of the page
  pub pops_next : (g : ℕ) → need (length db / size) (depth_of s) flags s.top ≤ g
      → (h : ℕ) × (suc h ≡ g)
      × (rest g db size flags s.pages.now s.top ≡ from_popped p (λ t. walk_from h db size (depth_of s') (take (length db / size) flags') t) o)
  unfolding walk_from need
  pops_next zero n = absurd (omega (arith, pops_top))
  pops_next (suc h) n = (h, refl, rw (v.top, v.is, v.marks, v.kept.depth))

pub walk_end : (f : ℕ) (db : List ℕ) (size depth : ℕ) (marks : List ℕ) → walk_from f db size depth marks [] ≡ through
unfolding walk_from
walk_end zero db size depth marks = refl
walk_end (suc f) db size depth marks = refl

-- ---- the loop of `next_leaf`: the walk that was to come is the walk that is still to come
pub record Goes (db : List ℕ) (size : ℕ) (flags₀ : List ℕ) (s₀ : Stack) (flags : List ℕ) (s : Stack) : Type 0 where
  pub kept : Keeps s₀ s
  pub flags_long : length flags ≡ length flags₀
  pub spent : need (length db / size) (depth_of s) flags s.top ≤ need (length db / size) (depth_of s₀) flags₀ s₀.top
  pub same : (f : ℕ) → need (length db / size) (depth_of s₀) flags₀ s₀.top ≤ f
      → (g : ℕ) × (need (length db / size) (depth_of s) flags s.top ≤ g) × (rest f db size flags₀ s₀.pages.now s₀.top ≡ rest g db size flags s.pages.now s.top)

module _ (db : List ℕ) (size : ℕ) (flags₀ : List ℕ) (s₀ : Stack) (flags : List ℕ) (s : Stack) (w : Goes db size flags₀ s₀ flags s) where
  module _ (p : ℕ) (st flags' : List ℕ) (s' : Stack) where
    pub goes_on : Pops db size flags s p st flags' s' (onward (held s')) → Goes db size flags₀ s₀ flags' s'
    goes_on v =
        let less = pops_less db size flags s p st flags' s' _ v (tops_length s'.pages.now s'.top) in
        record {
          kept = keeps_then s₀ s s' w.kept v.kept;
          flags_long = v.flags_long ∙ w.flags_long;
          spent = omega (arith, w.spent);
          same =
              λ f n.
              let a = w.same f n in
              let b = pops_next db size flags s p st flags' s' _ v a.0 a.1 in
              (b.0, omega (arith, a.1, b.1), a.2 ∙ b.2);
        }

    pub goes_leaf : Pops db size flags s p st flags' s' (leaf_then (held s')) → NextSays db size flags₀ s₀ flags' s' (Ok (Some p))
    goes_leaf v f n =
        let less = pops_less db size flags s p st flags' s' _ v (tops_length s'.pages.now s'.top) in
        let a = w.same f n in
        let b = pops_next db size flags s p st flags' s' _ v a.0 a.1 in
        let there = leaf_there db size (depth_of s) (take (length db / size) flags) p st (held s') v.is in
        record { some = there.0; there = there.1; fuel = b.0; enough = omega (arith, a.1, b.1); less = omega (arith, w.spent); fits = v.kept.inside; is = a.2 ∙ b.2 }

    pub goes_overflow : Pops db size flags s p st flags' s' overflow → (e : Overflow) → NextSays db size flags₀ s₀ flags' s' (Err e)
    goes_overflow v e f n = let a = w.same f n in a.2 ∙ (pops_next db size flags s p st flags' s' _ v a.0 a.1).2

  -- popping found the stack empty
  pub goes_done : (s' : Stack) → held s ≡ [] → NextSays db size flags₀ s₀ flags s' (Ok None)
  goes_done s' z f n = let a = w.same f n in a.2 ∙ rw z (walk_end a.0 db size (depth_of s) (take (length db / size) flags))
