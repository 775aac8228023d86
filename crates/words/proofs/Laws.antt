-- How the definitions go on from a byte to the next, which is how the code's loops go, and what other crates rest on.
-- Assumes nothing.
use Prim.Native.Nat.{ℕ, zero, suc, ◌+◌, ◌-◌, ◌%◌, ◌≤◌, ◌<◌}
use mathlib.Core.Path.{◌≡◌, refl, sym, ap, ◌∙◌}
use mathlib.Core.Bool.{Bool, true, false, cond, not, ◌&&◌, ◌||◌, and-eq-true_iff}
use mathlib.Core.List.{List, [], ◌∷◌, ◌++◌, reverse, reverse-append, reverse-reverse, reverse-cons}
use native.Mathlib.Nat.{zero-add}
use native.Mathlib.Numerals.{add-one}
use native.Mathlib.Omega.{arith}
use borrow.Author.Tests.{ne_eqb, eqb-false, lt-ltb, le-ltb, ltb-false, le-leb, lt-leb, leb-true, leb-false}
use lib.Dec.{leb, ltb, eqb, leb-suc-suc}
use lib.ListN.{length, take, drop, get_or, length-drop, length-reverse}
use Rattle.std.proofs.lemmas.List.{take-append-drop}
use lib.Seq.{drop-append_seam, drop-cons, take-suc, take_all, length-take-le, drop-drop}
use Rattle.std.specs.List.{position_or_len, position, list_all, zip}
use Rattle.std.proofs.lemmas.List.Sums.{prefix_len-le-length}
use Rattle.std.specs.Option.{unwrap_or}
use Rattle.std.specs.Prelude.{Option}
use Rattle.record.proofs.Numbers.{by_test}
use Rattle.words.specs.Inner.{Leads, Kept, WordEnds, PieceEnds, pieces_from}
use Rattle.words.specs.Runs.{is_blank, in_word, is_unlike, take_while, drop_while, drop_while_end, is_not, has, behind_first, before_last}
use Rattle.words.specs.Words.{comma, pieces, second_word, behind_word, word_behind, raise, starts_with, holds}

-- ---- a byte, and what stands behind or before it
pub from_at : (s : List ℕ) (i : ℕ) → i < length s → drop i s ≡ get_or s i 0 ∷ drop (i + 1) s
from_at s i h = rw (add-one, drop-cons s i 0)

-- the part of a slice that goes to its end
pub part_from : (s : List ℕ) (i : ℕ) → take (length s - i) (drop i s) ≡ drop i s
part_from s i = take_all (length s - i) (drop i s) (omega (arith, length-drop i s))

-- what is left behind the last bytes, last first
drop-reverse : (s : List ℕ) (n : ℕ) → n ≤ length s → drop n (reverse s) ≡ reverse (take (length s - n) s)
drop-reverse s n h =
    let m = length s - n in
    let long : length (reverse (drop m s)) ≡ n = rw (length-reverse, length-drop) (omega arith) in
    let parts : reverse s ≡ reverse (drop m s) ++ reverse (take m s) =
    ap reverse (sym (take-append-drop m s)) ∙ reverse-append (take m s) (drop m s) in
    rw parts (ap (λ k. drop k (reverse (drop m s) ++ reverse (take m s))) (sym long) ∙ drop-append_seam (reverse (drop m s)) (reverse (take m s)))

back_from : (s : List ℕ) (e : ℕ) → 0 < e → e ≤ length s → reverse (take e s) ≡ get_or s (e - 1) 0 ∷ reverse (take (e - 1) s)
back_from s zero h l = absurd (omega arith)
back_from s (suc e) h l =
    let q : suc e - 1 ≡ e = omega arith in
    let k : e < length s = omega arith in
    rw (q, take-suc s e 0 k, reverse-append)

-- ---- runs: a byte is of the run, or ends it
module _ (p : ℕ → Bool) where
  -- a run is as long as the place of the first byte that is not of it, or as the list
  run_place : (s : List ℕ) → position_or_len (λ b. not (p b)) s ≡ length (take_while p s)
  unfolding take_while
  run_place [] = refl
  run_place (b ∷ s) = by_test (p b) (λ h. rw (h, run_place s) (omega arith)) (λ h. rw h)

  pub run_length : (s : List ℕ) {r : Option ℕ} {n : ℕ} → r ≡ position (λ b. not (p b)) s → n ≡ length s → unwrap_or r n ≡ length (take_while p s)
  run_length s {r} {n} e l =
      by_test (ltb (position_or_len (λ b. not (p b)) s) (length s))
      (λ h. rw (e, h) (run_place s))
      (λ h. rw (e, h) (omega (arith, l, run_place s, ltb-false _ _ h, prefix_len-le-length (λ b. not (not (p b))) s)))

  -- THE LAW: the length of a run parts the list into it and what stands behind it
  pub take_run : (s : List ℕ) → take (length (take_while p s)) s ≡ take_while p s
  unfolding take_while
  take_run [] = refl
  take_run (b ∷ s) = by_test (p b) (λ h. rw h (ap (λ t. b ∷ t) (take_run s))) (λ h. rw h)

  pub drop_run : (s : List ℕ) → drop (length (take_while p s)) s ≡ drop_while p s
  unfolding take_while drop_while
  drop_run [] = refl
  drop_run (b ∷ s) = by_test (p b) (λ h. rw h (drop_run s)) (λ h. rw h)

  -- THE LAW: where a list ends without the run at its end is how many bytes are left of it
  pub kept_at : (s : List ℕ) (e : ℕ) → e ≤ length s → drop_while p (reverse s) ≡ reverse (take e s) →
      (e ≡ length (drop_while_end p s)) × Kept p s e
  kept_at s e h q =
      let part = sym (ap reverse q ∙ reverse-reverse (take e s)) in
      (sym (length-take-le e s h) ∙ ap length part, record { within = h; kept = part })

  -- THE LAW: so it ends where the run of its bytes from the last on does
  pub kept_run : (s : List ℕ) {n : ℕ} → n ≡ length (take_while p (reverse s)) → (length s - n ≡ length (drop_while_end p s)) × Kept p s (length s - n)
  kept_run s {n} e =
      let h : n ≤ length s = omega (arith, run_place (reverse s), prefix_len-le-length (λ b. not (not (p b))) (reverse s), length-reverse s) in
      kept_at s (length s - n) (omega arith) (sym (drop_run (reverse s)) ∙ rw (← e) (drop-reverse s n h))

-- the test on a byte and on what stands behind it
pub leads_behind : (p : ℕ → Bool) (x r : List ℕ) (m : ℕ) → ((k : ℕ) → k < length x → p (get_or x k 0) ≡ true) → Leads p r m → Leads p (x ++ r) (length x + m)
unfolding take_while
leads_behind p [] r m all l = rw zero-add l
leads_behind p (b ∷ x) r m all l =
    let w = leads_behind p x r m (λ k h. all (suc k) (omega arith)) l in
    let e : suc (length x) + m ≡ suc (length x + m) = omega arith in
    let h : p b ≡ true = all 0 (omega arith) in
    rw e (record { within = omega (arith, w.within); rest = rw h (ap suc w.rest ∙ omega arith) })

-- ---- the first and the last x
pub none_behind : (s : List ℕ) → length s ≡ 0 → s ≡ drop 1 s
none_behind [] h = refl
none_behind (b ∷ s) h = absurd (omega arith)

has_snoc : (x : ℕ) (s : List ℕ) (b : ℕ) → has x (s ++ (b ∷ [])) ≡ (eqb b x || has x s)
unfolding has
has_snoc x [] b = refl
has_snoc x (a ∷ s) b = rw (has_snoc x s b) (by_test (eqb a x) (λ h. rw h (by_test (eqb b x) (λ k. rw k) (λ k. rw k))) (λ h. rw h))

has_reverse : (x : ℕ) (s : List ℕ) → has x (reverse s) ≡ has x s
unfolding has
has_reverse x [] = refl
has_reverse x (b ∷ s) = rw (reverse-cons, has_snoc, has_reverse x s)

has_from : (x : ℕ) (s : List ℕ) → has x s ≡ ltb 0 (length (drop_while (is_not x) s))
unfolding has drop_while
has_from x [] = refl
has_from x (b ∷ s) = by_test (eqb b x) (λ h. rw h (sym (lt-ltb 0 (suc (length s)) (omega arith)))) (λ h. rw h (has_from x s))

-- THE LAW: what stands behind the first x has a y only where there is an x
pub behind_has : (x y : ℕ) (s : List ℕ) → (not (has x s) || not (has y (behind_first x s))) ≡ not (has y (behind_first x s))
unfolding has behind_first drop_while
behind_has x y [] = refl
behind_has x y (b ∷ s) = by_test (eqb b x) (λ h. rw h) (λ h. rw h (behind_has x y s))

-- THE LAW: a list that is kept up to its last x ends in it
module _ (x : ℕ) (s : List ℕ) (e : ℕ) (k : Kept (is_not x) s e) where
  kept_back : drop_while (is_not x) (reverse s) ≡ reverse (take e s)
  kept_back = sym (rw k.kept (reverse-reverse _))

  pub kept_has : has x s ≡ ltb 0 e
  kept_has =
      sym (has_reverse x s) ∙ has_from x (reverse s) ∙ rw (kept_back, length-reverse, length-take-le e s k.within)

  pub kept_before : 0 < e → take (e - 1) s ≡ before_last x s
  unfolding before_last behind_first
  kept_before h = sym (rw (kept_back, back_from s e h k.within) (reverse-reverse _))

-- ---- words
-- the first word ends behind the blanks before it and its own bytes
pub word_ends : (s : List ℕ) {n m : ℕ} → n ≡ length (take_while is_blank s) → m ≡ length (take_while in_word (drop n s)) → n + m ≤ length s →
    WordEnds s (n + m)
unfolding behind_word
word_ends s {n} {m} before own h = record {
  within = h;
  behind = rw (← drop-drop, own, drop_run, before, drop_run);
}

-- one word fewer is to be passed over behind the end of the first
pub word_passed : (s : List ℕ) (n at : ℕ) {e : ℕ} → 0 < n → WordEnds (drop at s) e → word_behind n (drop at s) ≡ word_behind (n - 1) (drop (at + e) s)
unfolding word_behind
word_passed s zero at h w = absurd (omega arith)
word_passed s (suc n) at {e} h w =
    let q : suc n - 1 ≡ n = omega arith in
    rw q (ap (word_behind n) (sym w.behind ∙ rw drop-drop))

-- ---- pieces
-- the first piece, and the pieces behind its comma
pieces_first : (s : List ℕ) →
    let n = length (take_while (is_not comma) s) in
    pieces s ≡ take_while (is_not comma) s ∷ cond (ltb n (length s)) (pieces (drop (suc n) s)) []
unfolding pieces take_while
pieces_first [] = refl
pieces_first (b ∷ s) =
    let n = length (take_while (is_not comma) s) in
    by_test (eqb b comma)
    (λ h. rw (h, lt-ltb 0 (suc (length s)) (omega arith)))
    (λ h. rw (h, pieces_first s, leb-suc-suc (suc n) (length s)))

-- THE LAW: the pieces from a place are the one that starts there and those from behind its end
pub piece_ends : (s : List ℕ) (at n : ℕ) → at ≤ length s → n ≡ length (take_while (is_not comma) (drop at s)) → n ≤ length (drop at s) →
    PieceEnds s at (at + n)
unfolding pieces_from
piece_ends s at n h r w =
    let m = length-drop at s in
    let q : at + n - at ≡ n = omega arith in
    let e : at + suc n ≡ at + n + 1 = omega arith in
    let first : take_while (is_not comma) (drop at s) ≡ take n (drop at s) = rw r (sym (take_run (is_not comma) (drop at s))) in
    let same : ltb n (length (drop at s)) ≡ leb (at + n + 1) (length s) =
    by_test (leb (at + n + 1) (length s))
    (λ t. rw t (lt-ltb n (length (drop at s)) (omega (arith, leb-true (at + n + 1) (length s) t))))
    (λ f. rw f (le-ltb n (length (drop at s)) (omega (arith, leb-false (at + n + 1) (length s) f)))) in
    record {
      from = omega arith;
      within = omega arith;
      next = rw (le-leb at (length s) h, pieces_first (drop at s), ← r, first, q, same, drop-drop, e);
    }

pub pieces_start : (s : List ℕ) → pieces_from s 0 ≡ pieces s
unfolding pieces_from
pieces_start s = rw (le-leb 0 (length s) (omega arith))

pub pieces_none : (s : List ℕ) (at : ℕ) → length s < at → pieces_from s at ≡ []
unfolding pieces_from
pieces_none s at h = rw (lt-leb at (length s) h)

-- ---- keywords
pub starts_short : (w s : List ℕ) → length s < length w → starts_with w s ≡ false
unfolding starts_with
starts_short [] s h = absurd (omega arith)
starts_short (a ∷ w) [] h = refl
starts_short (a ∷ w) (b ∷ s) h = rw (starts_short w s (omega arith)) (by_test (eqb (raise b) a) (λ h. rw h) (λ h. rw h))

-- a letter and its capital are 32 apart
raise_mod : (b : ℕ) → raise b % 32 ≡ b % 32
unfolding raise
raise_mod b =
    by_test (leb 97 b && leb b 122)
    (λ h. rw h (let l = leb-true 97 b ((and-eq-true_iff (leb 97 b) (leb b 122)).0 h).0 in omega arith))
    (λ h. rw h)

pub starts_other : (w s : List ℕ) → 0 < length w → (get_or s 0 0 % 32 ≡ get_or w 0 0 % 32 → ⊥) → starts_with w s ≡ false
unfolding starts_with
starts_other [] s h ne = absurd (omega arith)
starts_other (a ∷ w) [] h ne = refl
starts_other (a ∷ w) (b ∷ s) h ne = rw (ne_eqb (raise b) a (λ e. ne (sym (raise_mod b) ∙ rw e)))

-- a word that is no longer than the text is compared letter by letter
pub starts_zip : (w s : List ℕ) → length w ≤ length s → starts_with w s ≡ list_all (λ (b : ℕ × ℕ). eqb (raise b.0) b.1) (zip s w)
unfolding starts_with
starts_zip [] [] h = refl
starts_zip [] (b ∷ s) h = refl
starts_zip (a ∷ w) [] h = absurd (omega arith)
starts_zip (a ∷ w) (b ∷ s) h = rw (starts_zip w s (omega arith))

-- THE LAW: a word stands at none of the bytes that cannot be its first letter
holds_run : (w s : List ℕ) → 0 < length w → holds w s ≡ holds w (drop (length (take_while (is_unlike (get_or w 0 0)) s)) s)
unfolding holds take_while
holds_run w [] h = refl
holds_run w (b ∷ s) h =
    by_test (eqb (b % 32) (get_or w 0 0 % 32))
    (λ t. rw t)
    (λ f. rw (f, starts_other w (b ∷ s) h (eqb-false (b % 32) (get_or w 0 0 % 32) f)) (holds_run w s h))

pub holds_on : (w s : List ℕ) (i n : ℕ) → 0 < length w → n ≡ length (take_while (is_unlike (get_or w 0 0)) (take (length s - i) (drop i s))) →
    holds w (drop i s) ≡ holds w (drop (i + n) s)
holds_on w s i n h e = holds_run w (drop i s) h ∙ rw (e, part_from s i, drop-drop)

-- and at none behind the last byte
pub holds_none : (w s : List ℕ) → 0 < length w → length s ≡ 0 → holds w s ≡ false
unfolding holds starts_with
holds_none [] s h e = absurd (omega arith)
holds_none (a ∷ w) [] h e = refl
holds_none (a ∷ w) (b ∷ s) h e = absurd (omega arith)

holds_cut : (w s : List ℕ) → 0 < length w → holds w s ≡ (starts_with w s || holds w (drop 1 s))
unfolding holds
holds_cut w [] h = rw (starts_short w [] h)
holds_cut w (b ∷ s) h = refl

pub holds_at : (w s : List ℕ) (i : ℕ) → 0 < length w → holds w (drop i s) ≡ (starts_with w (drop i s) || holds w (drop (i + 1) s))
holds_at w s i h = holds_cut w (drop i s) h ∙ rw drop-drop

-- what whole blocks leave of a run is counted in the part behind them
pub run_rest : (p : ℕ → Bool) (s : List ℕ) (i : ℕ) → Leads p s i → i + length (take_while p (take (length s - i) (drop i s))) ≡ length (take_while p s)
run_rest p s i w = rw (part_from s i) (sym w.rest)

-- the second word is the word behind one other
pub second_behind : (s : List ℕ) → second_word s ≡ word_behind 1 s
unfolding second_word word_behind behind_word
second_behind s = refl
