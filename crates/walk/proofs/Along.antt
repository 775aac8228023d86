-- Walking leaf by leaf: what is made of the leaves so far, with what the walk that is still to come gives, is what the whole walk gives.
-- Assumes nothing.
use Prim.Native.Nat.{ℕ, zero, suc, ◌+◌, ◌*◌, ◌/◌, ◌≤◌, ◌<◌}
use mathlib.Core.Path.{◌≡◌, refl, sym, ap, ◌∙◌}
use mathlib.Core.Bool.{true, false}
use mathlib.Core.List.{List, [], ◌∷◌, ◌++◌, append-nil, append_assoc}
use native.Mathlib.Omega.{arith}
use borrow.Author.Tests.{lt-ltb, le-ltb}
use lib.ListN.{length, take, replicate, length-replicate}
use Rattle.record.proofs.Numbers.{by_order}
use Rattle.walk.specs.Inner.{tops, zeros, need, rest, LeafIs}
use Rattle.walk.specs.Walk.{onward, overflow, Walk, through, overflowed, push_all, walk_from, walk, hits_of, overflows}
use Rattle.walk.proofs.Pushing.{tops_length}

-- ---- the root
take_zeros : (k n : ℕ) → k ≤ n → take {A = ℕ} k (replicate n 0) ≡ replicate k 0
take_zeros zero n h = refl
take_zeros (suc k) zero h = absurd (omega arith)
take_zeros (suc k) (suc n) h = ap (λ (l : List ℕ). 0 ∷ l) (take_zeros k n (omega arith))

pub zeros_all : (n : ℕ) → zeros (replicate n 0) ≡ n
unfolding zeros
zeros_all zero = refl
zeros_all (suc n) = omega (arith, zeros_all n)

module _ (db : List ℕ) (size depth root : ℕ) where
  -- the root is pushed, if the stack has a cell
  push_root : (st : List ℕ) → onward st ≡ push_all depth (root ∷ []) [] → (0 < depth) × (st ≡ root ∷ [])
  unfolding push_all
  push_root st e =
      by_order 0 depth
      (λ h. let d = simp (lt-ltb 0 depth h) at e in (h, (cc)))
      (λ h. let d = simp (le-ltb 0 depth h) at e in absurd (let z : ◌≡◌ {A = ℕ} 0 1 = cc in omega arith))

  walk_some : 0 < depth
      → walk db size depth root ≡ walk_from (length db / size * (depth + 1) + 1) db size depth (replicate (length db / size) 0) (root ∷ [])
  unfolding walk
  walk_some h = simp (lt-ltb 0 depth h)

  pub walk_none : overflow ≡ push_all depth (root ∷ []) [] → walk db size depth root ≡ overflowed
  unfolding walk push_all
  walk_none e =
      by_order 0 depth
      (λ h. let d = simp (lt-ltb 0 depth h) at e in absurd (let z : ◌≡◌ {A = ℕ} 0 1 = cc in omega arith))
      (λ h. simp (le-ltb 0 depth h))

-- ---- of the walk `whole`, `done` has come of the leaves so far; `count` is how many flags there are
pub record Along {A : Type 0} (carve : ℕ → List A) (whole : Walk) (db : List ℕ) (size depth count : ℕ) (flags stack : List ℕ) (top : ℕ) (done : List A) : Type 0 where
  pub fits : top ≤ length stack
  pub stack_long : length stack ≡ depth
  pub flags_long : length flags ≡ count
  pub flagged : length db / size ≤ count
  pub fuel : ℕ
  pub enough : need (length db / size) (length stack) flags top ≤ fuel
  pub hits : done ++ hits_of carve (rest fuel db size flags stack top) ≡ hits_of carve whole
  pub ends : overflows (rest fuel db size flags stack top) ≡ overflows whole

start_need : (pages depth : ℕ) (flags stack : List ℕ) (top : ℕ) → take pages flags ≡ replicate pages 0 → length stack ≡ depth → top ≡ 1
    → need pages (length stack) flags top ≤ pages * (depth + 1) + 1
unfolding need
start_need pages depth flags stack top marks long one = rw (marks, long, zeros_all, one) (omega arith)

pub along_start : {A : Type 0} (carve : ℕ → List A) (db : List ℕ) (size depth root count : ℕ) (flags stack : List ℕ) (top : ℕ)
    → onward (tops stack top) ≡ push_all depth (root ∷ []) [] → flags ≡ replicate count 0 → length stack ≡ depth → top ≤ depth → length db / size ≤ count
    → Along carve (walk db size depth root) db size depth count flags stack top []
along_start carve db size depth root count flags stack top e clear long fits flagged =
    let pages = length db / size in
    let r = push_root db size depth root (tops stack top) e in
    let marks : take pages flags ≡ replicate pages 0 = ap (λ (l : List ℕ). take pages l) clear ∙ take_zeros pages count flagged in
    let one : top ≡ 1 = sym (tops_length stack top) ∙ ap (λ (l : List ℕ). length l) r.1 in
    let w = walk_some db size depth root r.0 in
    let is : rest (pages * (depth + 1) + 1) db size flags stack top ≡ walk db size depth root = rw (marks, long, r.1) (sym w) in
    record {
      fits = omega arith;
      stack_long = long;
      flags_long = ap (λ (l : List ℕ). length l) clear ∙ length-replicate count 0;
      flagged = flagged;
      fuel = pages * (depth + 1) + 1;
      enough = start_need pages depth flags stack top marks long one;
      hits = ap (λ (t : Walk). hits_of carve t) is;
      ends = ap (λ (t : Walk). overflows t) is;
    }

module _ {A : Type 0} (carve : ℕ → List A) (whole : Walk) (db : List ℕ) (size depth count : ℕ) (flags stack : List ℕ) (top : ℕ) (done : List A)
    (w : Along carve whole db size depth count flags stack top done) where
  module _ (most : ℕ) (flags' stack' : List ℕ) (p t : ℕ) (x : LeafIs db size (rest w.fuel db size flags stack top) most flags' stack' p t) where
    -- a leaf more
    pub along_leaf : length stack' ≡ length stack → length flags' ≡ length flags → Along carve whole db size depth count flags' stack' t (done ++ carve p)
    along_leaf ls lf =
        record {
          fits = x.fits;
          stack_long = ls ∙ w.stack_long;
          flags_long = lf ∙ w.flags_long;
          flagged = w.flagged;
          fuel = x.fuel;
          enough = x.enough;
          hits = append_assoc done (carve p) (hits_of carve (rest x.fuel db size flags' stack' t)) ∙ rw x.is at w.hits;
          ends = rw x.is at w.ends;
        }

    -- there is what comes of it, and what comes later
    pub along_more : (later : List A) × ((done ++ carve p) ++ later ≡ hits_of carve whole)
    along_more =
        let later = hits_of carve (rest x.fuel db size flags' stack' t) in
        (later, append_assoc done (carve p) later ∙ rw x.is at w.hits)

  pub along_done : rest w.fuel db size flags stack top ≡ through → (done ≡ hits_of carve whole) × (overflows whole ≡ false)
  along_done e = (sym (append-nil done) ∙ rw e at w.hits, sym (rw e at w.ends))

  pub along_overflow : rest w.fuel db size flags stack top ≡ overflowed → (done ≡ hits_of carve whole) × (overflows whole ≡ true)
  along_overflow e = (sym (append-nil done) ∙ rw e at w.hits, sym (rw e at w.ends))
