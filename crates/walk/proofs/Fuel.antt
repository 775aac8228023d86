-- The bound on the pops never cuts a walk short: any bound from it on gives the same walk.
-- Assumes nothing.
use Prim.Native.Nat.{ℕ, zero, suc, ◌+◌, ◌-◌, ◌*◌, ◌/◌, ◌≤◌, ◌<◌}
use mathlib.Core.Path.{◌≡◌, refl, sym, ap, ◌∙◌}
use mathlib.Core.Bool.{Bool, true, false, cond}
use mathlib.Core.List.{List, [], ◌∷◌}
use native.Mathlib.Omega.{arith}
use borrow.Author.Tests.{ltb-true}
use lib.Dec.{ltb, eqb}
use lib.ListN.{length, set, replicate, length-set, length-replicate}
use Rattle.page.specs.Page.{page_type, page_of, head_of}
use Rattle.walk.specs.Walk.{kids, Popped, leaf_then, onward, overflow, push_all, page_done, fresh, marked, popped, Walk, leaf, from_popped, walk_from}
use Rattle.walk.specs.Inner.{zeros}
use Rattle.walk.proofs.Popping.{stack_of, used_up, walk_end}
use Rattle.walk.proofs.Along.{zeros_all}

-- ---- a stack never grows past its room
Fits : ℕ → Popped → Type 0
Fits depth o = length (stack_of o) ≤ depth

if_fits : (depth : ℕ) (b : Bool) (x y : Popped) → (b ≡ true → Fits depth x) → Fits depth y → Fits depth (cond b x y)
if_fits depth true x y h k = h refl
if_fits depth false x y h k = k

pushes_fit : (depth : ℕ) (ps st : List ℕ) → length st ≤ depth → Fits depth (push_all depth ps st)
unfolding push_all Fits
pushes_fit depth [] st h = h
pushes_fit depth (p ∷ ps) st h =
    if_fits depth (ltb (length st) depth) (push_all depth ps (p ∷ st)) overflow (λ e. pushes_fit depth ps (p ∷ st) (omega (arith, ltb-true (length st) depth e))) (omega arith)

page_fits : (depth : ℕ) (page : List ℕ) (head : ℕ) (st : List ℕ) → length st ≤ depth → Fits depth (page_done depth page head st)
unfolding page_done Fits
page_fits depth page head st h =
    if_fits depth (eqb (page_type page head) 0x0D) (leaf_then st) _ (λ e. h)
    (if_fits depth (eqb (page_type page head) 0x05) (push_all depth (kids page head) st) (onward st) (λ e. pushes_fit depth (kids page head) st h) h)

popped_fits : (db : List ℕ) (size depth : ℕ) (marks : List ℕ) (p : ℕ) (st : List ℕ) → length st ≤ depth → length (stack_of (popped db size depth marks p st)) ≤ depth
unfolding popped Fits
popped_fits db size depth marks p st h =
    if_fits depth (fresh (length db) size marks p) (page_done depth (page_of db size p) (head_of p) st) (onward st) (λ e. page_fits depth (page_of db size p) (head_of p) st h) h

-- ---- two bounds
marked_length_lem : (len size : ℕ) (marks : List ℕ) (p : ℕ) → length (marked len size marks p) ≡ length marks
unfolding marked
marked_length_lem len size marks p = by (fresh len size marks p) where
  by : (b : Bool) → length (cond b (set marks (p - 1) 1) marks) ≡ length marks
  by true = length-set marks (p - 1) 1
  by false = refl

agree : (p : ℕ) (a b : List ℕ → Walk) (o : Popped) → a (stack_of o) ≡ b (stack_of o) → from_popped p a o ≡ from_popped p b o
agree p a b (leaf_then st) e = ap (λ (t : Walk). leaf p t) e
agree p a b (onward st) e = e
agree p a b overflow e = refl

any_fuel : (f g : ℕ) (db : List ℕ) (size depth : ℕ) (marks st : List ℕ) → length marks ≡ length db / size → length st ≤ depth
    → zeros marks * (depth + 1) + length st ≤ f → zeros marks * (depth + 1) + length st ≤ g → walk_from f db size depth marks st ≡ walk_from g db size depth marks st
unfolding walk_from
any_fuel zero g db size depth marks [] l h n m = sym (walk_end g db size depth marks)
any_fuel zero g db size depth marks (p ∷ st) l h n m = absurd (omega arith)
any_fuel (suc f) g db size depth marks [] l h n m = sym (walk_end g db size depth marks)
any_fuel (suc f) zero db size depth marks (p ∷ st) l h n m = absurd (omega arith)
any_fuel (suc f) (suc g) db size depth marks (p ∷ st) l h n m =
    let o = popped db size depth marks p st in
    let fits = popped_fits db size depth marks p st (omega arith) in
    let less = used_up db size depth marks p st l fits in
    agree p (λ s. walk_from f db size depth (marked (length db) size marks p) s) (λ s. walk_from g db size depth (marked (length db) size marks p) s) o
    (any_fuel f g db size depth (marked (length db) size marks p) (stack_of o) (marked_length_lem (length db) size marks p ∙ l) fits (omega arith) (omega arith))

-- THE LAW: the walk from the root is the same whatever bounds its pops, from the bound of its definition on
pub whole_walk : (g : ℕ) (db : List ℕ) (size depth root : ℕ) → 0 < depth → length db / size * (depth + 1) + 1 ≤ g →
    walk_from g db size depth (replicate (length db / size) 0) (root ∷ []) ≡ walk_from (length db / size * (depth + 1) + 1) db size depth (replicate (length db / size) 0) (root ∷ [])
whole_walk g db size depth root h n =
    let pages = length db / size in
    let z = zeros_all pages in
    any_fuel g (pages * (depth + 1) + 1) db size depth (replicate pages 0) (root ∷ []) (length-replicate pages 0) (omega arith) (rw z (omega arith)) (rw z (omega arith))
