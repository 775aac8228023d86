-- The mark decides nothing: without it an attempt finds what it found when there was none.
-- Assumes nothing.
use Rattle.std.specs.Prelude.{None, Some}
use Prim.Native.Nat.{ℕ, ◌+◌, ◌-◌}
use mathlib.Core.Path.{◌≡◌, refl}
use mathlib.Core.Bool.{Bool, cond, ◌&&◌}
use mathlib.Core.List.{List}
use lib.Dec.{leb, eqb, ltb}
use lib.ListN.{length}
use Rattle.attempt.specs.Attempt.{Types, kinds, is_whole, types_from, Bodies, unfit, laid, bodies_from, Tried, miss, hit, sized, judged, judged_whole, header_fits, attempt_with, attempt_at, most_bytes}
use Rattle.attempt.specs.Hints.{suited}
use Rattle.record.proofs.Numbers.{tested}
use Rattle.record.specs.Places.{header_padded}
use Rattle.record.specs.Varint.{varint_at}
use Rattle.record.specs.Varint.{Varint}

-- what was found, with the mark q
abbrev pub marked : Bool → Tried → Tried
marked q miss = miss
marked q (hit x) = hit (record { consumed = x.consumed; matched = x.matched; columns = x.columns; padded = q })

module _ (q : Bool) where
  sized_marked : (o n : ℕ) (p : Bool) (b : Bodies) → marked q (sized o n p b) ≡ sized o n q b
  sized_marked o n p unfit = refl
  sized_marked o n p (laid cs end) = tested (marked q) (leb (end - o) most_bytes) _ miss refl refl

  judged_marked : (len : ℕ) (hints : List ℕ) (o h : ℕ) (p : Bool) (ts : List ℕ) → marked q (judged len hints o h p ts) ≡ judged len hints o h q ts
  unfolding judged
  judged_marked len hints o h p ts =
      tested (marked q) (eqb (length ts) (length hints) && ltb 0 (suited hints ts)) _ miss (sized_marked o (suited hints ts) p (bodies_from len (o + h) ts)) refl

  whole_marked : (len : ℕ) (hints : List ℕ) (o h : ℕ) (p : Bool) (ts : Types) → marked q (judged_whole len hints o h p ts) ≡ judged_whole len hints o h q ts
  whole_marked len hints o h p ts = tested (marked q) (is_whole ts) _ miss (judged_marked len hints o h p (kinds ts)) refl

  -- an attempt whose every row has the mark q: what it finds knows of no padded number
  abbrev pub marked_with : List ℕ → List ℕ → ℕ → Varint → Tried
  marked_with s hints o (Some (h, c)) = cond (header_fits (length s) o h) (judged_whole (length s) hints o h q (types_from h s c.at (o + h))) miss
  marked_with s hints o None = miss

  -- THE LAW: an attempt is that one, but for the mark
  pub attempt_marked : (s hints : List ℕ) (o : ℕ) → marked q (attempt_at s hints o) ≡ marked_with s hints o (varint_at s o)
  unfolding attempt_at
  attempt_marked s hints o = by_length (varint_at s o)
    where
      by_length : (v : Varint) → marked q (attempt_with s hints o v) ≡ marked_with s hints o v
      by_length None = refl
      by_length (Some (h, c)) =
          tested (marked q) (header_fits (length s) o h) _ miss (whole_marked (length s) hints o h (header_padded h s c (o + h)) (types_from h s c.at (o + h))) refl
