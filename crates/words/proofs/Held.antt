-- A word that stands in a part of a text stands in the text: what laws of statements rest on.
-- Assumes nothing.
use Prim.Native.Nat.{ℕ, zero, suc}
use mathlib.Core.Path.{◌≡◌, refl}
use mathlib.Core.Bool.{Bool, true, false≢true, and-eq-true_iff, or-true}
use mathlib.Core.List.{List, [], ◌∷◌}
use lib.Dec.{eqb}
use lib.ListN.{length}
use Rattle.record.proofs.Numbers.{by_test}
use Rattle.words.specs.Runs.{is_blank, in_word, is_not, take_while, drop_while, before_first}
use Rattle.words.specs.Words.{raise, first_word, behind_word, word_behind, starts_with, equals, holds}

-- ---- a word at the front
pub starts_run : (p : ℕ → Bool) (w s : List ℕ) → starts_with w (take_while p s) ≡ true → starts_with w s ≡ true
unfolding starts_with take_while
starts_run p [] s h = refl
starts_run p (a ∷ w) [] h = h
starts_run p (a ∷ w) (b ∷ s) h =
    by_test (p b)
    (λ t.
    let both = (and-eq-true_iff (eqb (raise b) a) (starts_with w (take_while p s))).0 (rw t at h) in
    (and-eq-true_iff (eqb (raise b) a) (starts_with w s)).1 (both.0, starts_run p w s both.1))
    (λ f. absurd (false≢true (rw f at h)))

pub starts_before : (x : ℕ) (w s : List ℕ) → starts_with w (before_first x s) ≡ true → starts_with w s ≡ true
unfolding before_first
starts_before x w s h = starts_run (is_not x) w s h

pub starts_equal : (w s : List ℕ) → equals w s ≡ true → starts_with w s ≡ true
unfolding equals
starts_equal w s h = ((and-eq-true_iff (eqb (length s) (length w)) (starts_with w s)).0 h).1

-- ---- a word anywhere
holds_start : (w s : List ℕ) → starts_with w s ≡ true → holds w s ≡ true
unfolding holds
holds_start w [] h = h
holds_start w (b ∷ s) h = rw h

holds_behind : (p : ℕ → Bool) (w s : List ℕ) → holds w (drop_while p s) ≡ true → holds w s ≡ true
unfolding holds drop_while
holds_behind p w [] h = h
holds_behind p w (b ∷ s) h =
    by_test (p b) (λ t. rw (holds_behind p w s (rw t at h)) (or-true (starts_with w (b ∷ s)))) (λ f. rw f at h)

-- THE LAW: a text holds each of its words
pub holds_word_lem : (w s : List ℕ) (k : ℕ) → equals w (word_behind k s) ≡ true → holds w s ≡ true
unfolding word_behind first_word behind_word
holds_word_lem w s zero h =
    holds_behind is_blank w s (holds_start w _ (starts_run in_word w _ (starts_equal w _ h)))
holds_word_lem w s (suc k) h =
    holds_behind is_blank w s (holds_behind in_word w _ (holds_word_lem w (behind_word s) k h))
