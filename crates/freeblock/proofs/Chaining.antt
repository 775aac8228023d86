-- The chain of freeblocks: where it ends, and how many blocks it has.
-- Assumes nothing.
use Prim.Native.Nat.{ℕ, zero, suc, ◌+◌, ◌≤◌, ◌<◌}
use mathlib.Core.Path.{◌≡◌, refl, sym, ap, ◌∙◌}
use mathlib.Core.Bool.{Bool, true, false, true≢false, cond, ◌||◌, or-true}
use mathlib.Core.List.{List, [], ◌∷◌}
use mathlib.Core.Logic.{by_cases}
use native.Mathlib.Decide.{ℕ_discrete}
use native.Mathlib.Nat.{add-zero, zero-add}
use native.Mathlib.Omega.{arith}
use borrow.Author.Tests.{lt-ltb, le-ltb, ltb-false, eqb-true, eq-eqb, ne_eqb}
use lib.Dec.{ltb, eqb}
use lib.ListN.{length, get_or, set, replicate, length-set, length-replicate, get_or-replicate}
use lib.Seq.{get_or-set_same, get_or-set_other}
use Rattle.freeblock.specs.Freeblock.{chain_ends, blocks_from, freeblocks}
use Rattle.page.specs.Page.{among, first_freeblock, block_next, block_size}
use Rattle.sheet.proofs.Laws.{neither}

-- ---- where it ends
module _ (page : List ℕ) (head at : ℕ) where
  pub ends_low : at < head + 8 → true ≡ chain_ends page head at
  unfolding chain_ends
  ends_low h = simp (lt-ltb at (head + 8) h, or-true)

  module _ (from : head + 8 ≤ at) where
    pub ends_past : length page < at + 4 → true ≡ chain_ends page head at
    unfolding chain_ends
    ends_past h = simp (ne_eqb at 0 (λ z. omega arith), le-ltb at (head + 8) from, lt-ltb (length page) (at + 4) h)

    pub ends_tiny : at + 4 ≤ length page → block_size page at < 4 → true ≡ chain_ends page head at
    unfolding chain_ends
    ends_tiny h lt = simp (ne_eqb at 0 (λ z. omega arith), le-ltb at (head + 8) from, le-ltb (length page) (at + 4) h, lt-ltb (block_size page at) 4 lt)

    pub ends_size : at + 4 ≤ length page → 4 ≤ block_size page at → ltb (length page) (at + block_size page at) ≡ chain_ends page head at
    unfolding chain_ends
    ends_size h le = simp (ne_eqb at 0 (λ z. omega arith), le-ltb at (head + 8) from, le-ltb (length page) (at + 4) h, le-ltb (block_size page at) 4 le)

-- a block where it does not end lies in the page
pub record Lies (page : List ℕ) (head at : ℕ) : Type 0 where
  pub from : head + 8 ≤ at
  pub four : at + 4 ≤ length page
  pub some : 4 ≤ block_size page at
  pub inside : at + block_size page at ≤ length page

pub lies : (page : List ℕ) (head at : ℕ) → chain_ends page head at ≡ false → Lies page head at
unfolding chain_ends
lies page head at e =
    let a = neither (eqb at 0) _ e in
    let b = neither (ltb at (head + 8)) _ a.1 in
    let c = neither (ltb (length page) (at + 4)) _ b.1 in
    let d = neither (ltb (block_size page at) 4) _ c.1 in
    record {
      from = ltb-false at (head + 8) b.0;
      four = ltb-false (length page) (at + 4) c.0;
      some = ltb-false (block_size page at) 4 d.0;
      inside = ltb-false (length page) (at + block_size page at) d.1;
    }

-- ---- a step of it
module _ (page : List ℕ) (head : ℕ) where
  module _ (f : ℕ) (seen : List ℕ) (at : ℕ) where
    pub blocks_end : chain_ends page head at ≡ true → blocks_from f page head seen at ≡ []
    unfolding blocks_from
    blocks_end e = by f
      where
        by : (f : ℕ) → blocks_from f page head seen at ≡ []
        by zero = refl
        by (suc f) = simp e

    pub blocks_seen : among at seen ≡ true → blocks_from f page head seen at ≡ []
    unfolding blocks_from
    blocks_seen e = by f
      where
        by : (f : ℕ) → blocks_from f page head seen at ≡ []
        by zero = refl
        by (suc f) = simp (e, or-true)

    pub blocks_on : chain_ends page head at ≡ false → among at seen ≡ false
        → blocks_from (suc f) page head seen at ≡ record { at = at; size = block_size page at } ∷ blocks_from f page head (at ∷ seen) (block_next page at)
    unfolding blocks_from
    blocks_on e s = simp (e, s)

  -- where blocks are left, one stands here
  pub blocks_some : (f : ℕ) (seen : List ℕ) (at : ℕ) → 0 < length (blocks_from f page head seen at)
      → (g : ℕ) × (chain_ends page head at ≡ false) × (blocks_from f page head seen at ≡ record { at = at; size = block_size page at } ∷ blocks_from g page head (at ∷ seen) (block_next page at))
  unfolding blocks_from
  blocks_some zero seen at h = absurd (omega arith)
  blocks_some (suc f) seen at h = go (chain_ends page head at) (among at seen) refl refl h
    where
      go : (a b : Bool) → chain_ends page head at ≡ a → among at seen ≡ b
          → 0 < length (cond (a || b) [] (record { at = at; size = block_size page at } ∷ blocks_from f page head (at ∷ seen) (block_next page at)))
          → (g : ℕ) × (chain_ends page head at ≡ false) × (blocks_from (suc f) page head seen at ≡ record { at = at; size = block_size page at } ∷ blocks_from g page head (at ∷ seen) (block_next page at))
      go true b e s h = absurd (omega arith)
      go false true e s h = absurd (omega arith)
      go false false e s h = (f, e, simp (e, s))

  -- ---- a chain that ends, wherever it has been: after n blocks
  abbrev pub EndsIn : ℕ → ℕ → Type 0
  EndsIn zero at = chain_ends page head at ≡ true
  EndsIn (suc n) at = (chain_ends page head at ≡ false) × EndsIn n (block_next page at)

  -- it ends after one number of blocks only
  same_end : (n m at : ℕ) → EndsIn n at → EndsIn m at → n ≡ m
  same_end zero zero at e f = refl
  same_end zero (suc m) at e f = absurd (true≢false (sym e ∙ f.0))
  same_end (suc n) zero at e f = absurd (true≢false (sym f ∙ e.0))
  same_end (suc n) (suc m) at e f = ap suc (same_end n m (block_next page at) e.1 f.1)

  -- from each of the places more blocks come than n
  abbrev Before : ℕ → List ℕ → Type 0
  Before n [] = Unit
  Before n (s ∷ seen) = ((k : ℕ) × (n < k) × EndsIn k s) × Before n seen

  before_less : (n : ℕ) (seen : List ℕ) → Before (suc n) seen → Before n seen
  before_less n [] b = tt
  before_less n (s ∷ seen) b = ((b.0.0, omega (arith, b.0.1), b.0.2), before_less n seen b.1)

  -- so none of them is where n blocks come
  not_seen : (n at : ℕ) (seen : List ℕ) → EndsIn n at → Before n seen → among at seen ≡ false
  not_seen n at [] e b = refl
  not_seen n at (s ∷ seen) e b = go (eqb at s) refl (not_seen n at seen e b.1)
    where
      go : (t : Bool) → eqb at s ≡ t → among at seen ≡ false → (t || among at seen) ≡ false
      go true d rest = let z = same_end n b.0.0 at e (rw (sym (eqb-true at s d)) at b.0.2) in absurd (omega (arith, b.0.1))
      go false d rest = rest

  count_is : (n f at : ℕ) (seen : List ℕ) → n ≤ f → EndsIn n at → Before n seen → length (blocks_from f page head seen at) ≡ n
  count_is zero f at seen h e b = rw (blocks_end f seen at e)
  count_is (suc n) zero at seen h e b = absurd (omega arith)
  count_is (suc n) (suc f) at seen h e b =
      rw (blocks_on f seen at e.0 (not_seen (suc n) at seen e b))
      (ap suc (count_is n f (block_next page at) (at ∷ seen) (omega arith) e.1 ((suc n, omega arith, e), before_less n seen b)))

  -- ---- counting without marks: from the first block n blocks come to `at`
  abbrev pub Reached : ℕ → ℕ → Type 0
  Reached n at = (k : ℕ) → EndsIn k at → EndsIn (n + k) (first_freeblock page head)

  pub reached_start : (at : ℕ) → at ≡ first_freeblock page head → Reached 0 at
  reached_start at e k d = rw zero-add (rw e at d)

  pub reached_more : (n at : ℕ) → Reached n at → chain_ends page head at ≡ false → Reached (n + 1) (block_next page at)
  reached_more n at r e k d = let s : n + suc k ≡ n + 1 + k = omega arith in rw s at (r (suc k) (e, d))

  pub reached_end : (n at : ℕ) → n ≤ length page → Reached n at → chain_ends page head at ≡ true → n ≡ length (freeblocks page head)
  unfolding freeblocks
  reached_end n at h r e = sym (count_is n (length page) (first_freeblock page head) [] h (rw add-zero at (r 0 e)) tt)

  -- ---- counting with marks: those of the places that were seen are 1, and others 0
  pub record Marked (marks : List ℕ) (at n : ℕ) : Type 0 where
    pub seen : List ℕ
    pub fuel : ℕ
    pub left : n + fuel ≡ length page
    pub long : length marks ≡ 65536
    pub low : at < 65536
    pub marks_are : (x : ℕ) → x < 65536 → get_or marks x 0 ≡ cond (among x seen) 1 0
    pub rest : n + length (blocks_from fuel page head seen at) ≡ length (freeblocks page head)

  pub marked_start : (marks : List ℕ) → marks ≡ replicate 65536 0 → first_freeblock page head < 65536 → Marked marks (first_freeblock page head) 0
  unfolding freeblocks
  marked_start marks e h =
      record {
        seen = [];
        fuel = length page;
        left = omega arith;
        long = ap (λ (l : List ℕ). length l) e ∙ length-replicate {0} {A = ℕ} 65536 0;
        low = h;
        marks_are = λ x lt. rw e (get_or-replicate 65536 x 0 0 lt);
        rest = omega arith;
      }

  module _ (marks : List ℕ) (at n : ℕ) (w : Marked marks at n) where
    pub marked_end : chain_ends page head at ≡ true → n ≡ length (freeblocks page head)
    marked_end e = omega (arith, rw (blocks_end w.fuel w.seen at e) at w.rest)

    pub marked_seen : (get_or marks at 0 ≡ 0 → ⊥) → n ≡ length (freeblocks page head)
    marked_seen h = go (among at w.seen) refl (w.marks_are at w.low)
      where
        go : (b : Bool) → among at w.seen ≡ b → get_or marks at 0 ≡ cond b 1 0 → n ≡ length (freeblocks page head)
        go true s e = omega (arith, rw (blocks_seen w.fuel w.seen at s) at w.rest)
        go false s e = absurd (h e)

    pub marked_out : length page ≤ n → n ≡ length (freeblocks page head)
    unfolding blocks_from
    marked_out h = let z : w.fuel ≡ 0 = omega (arith, w.left) in omega (arith, rw z at w.rest)

    pub marked_more : n < length page → chain_ends page head at ≡ false → get_or marks at 0 ≡ 0 → block_next page at < 65536 → Marked (set marks at 1) (block_next page at) (n + 1)
    marked_more h e z lt = more w.fuel w.left w.rest
      where
        unseen : (b : Bool) → among at w.seen ≡ b → get_or marks at 0 ≡ cond b 1 0 → among at w.seen ≡ false
        unseen true s d = absurd (let q : ◌≡◌ {A = ℕ} 0 1 = cc in omega arith)
        unseen false s d = s

        mark : (x : ℕ) → x < 65536 → get_or (set marks at 1) x 0 ≡ cond (among x (at ∷ w.seen)) 1 0
        mark x below =
            by_cases (ℕ_discrete x at)
            (λ same. rw same (simp (eq-eqb at at refl) (get_or-set_same marks at 1 0 (omega (arith, w.long, w.low)))))
            (λ other. simp (ne_eqb x at other) (get_or-set_other marks at x 1 0 other ∙ w.marks_are x below))

        more : (f : ℕ) → n + f ≡ length page → n + length (blocks_from f page head w.seen at) ≡ length (freeblocks page head) → Marked (set marks at 1) (block_next page at) (n + 1)
        more zero l r = absurd (omega arith)
        more (suc f) l r =
            let s = unseen (among at w.seen) refl (w.marks_are at w.low) in
            let d = rw (blocks_on f w.seen at e s) at r in
            record {
              seen = at ∷ w.seen;
              fuel = f;
              left = omega arith;
              long = length-set marks at 1 ∙ w.long;
              low = lt;
              marks_are = mark;
              rest = omega (arith, d);
            }
