-- The mark decides nothing: without it a rebuilt header makes what it made when there was none.
-- Assumes nothing.
use Prim.Native.Nat.{ℕ}
use mathlib.Core.Path.{◌≡◌, refl, ap, ◌∙◌}
use mathlib.Core.Bool.{Bool}
use mathlib.Core.List.{List, ◌++◌}
use lib.ListN.{length, drop}
use Rattle.attempt.proofs.Marks.{marked, marked_with, attempt_marked}
use Rattle.attempt.specs.Attempt.{Tried, miss, hit, attempt_at}
use Rattle.rebuild.specs.Header.{own_bytes, length_bytes, Guess, no_header, takes, guessed, without, rebuilt_with, rebuilt}
use Rattle.rebuild.specs.declared.rebuilding.Rebuilding.{Rebuilding}
use Rattle.record.specs.Varint.{varint_at}

module _ (q : Bool) where
  without_marked : (k : ℕ) (t : Tried) → marked q (without k t) ≡ without k (marked q t)
  without_marked k miss = refl
  without_marked k (hit x) = refl

  module _ (d hints : List ℕ) (v : ℕ) where
    -- a rebuilt header whose every row has the mark q
    abbrev pub rebuilt_marked : Guess → Tried
    rebuilt_marked no_header = miss
    rebuilt_marked (takes t) = without (own_bytes t) (marked_with q (length_bytes t ++ drop v d) hints 0 (varint_at (length_bytes t ++ drop v d) 0))

    -- THE LAW: a rebuilt header is that one, but for the mark
    pub rebuilt_marked_lem : (how : Rebuilding) → marked q (rebuilt how d hints v) ≡ rebuilt_marked (guessed how d (length hints) v)
    unfolding rebuilt
    rebuilt_marked_lem how = go (guessed how d (length hints) v)
      where
        go : (g : Guess) → marked q (rebuilt_with d hints v g) ≡ rebuilt_marked g
        go no_header = refl
        go (takes t) =
            let s = length_bytes t ++ drop v d in
            without_marked (own_bytes t) (attempt_at s hints 0) ∙ ap (without (own_bytes t)) (attempt_marked q s hints 0)
