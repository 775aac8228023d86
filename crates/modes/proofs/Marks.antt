-- The mark decides nothing: without it each mode finds what it found when there was none.
-- Assumes nothing.
use Rattle.std.specs.Prelude.{None, Some}
use Prim.Native.Nat.{ℕ, ◌+◌, ◌-◌}
use mathlib.Core.Path.{◌≡◌, refl}
use mathlib.Core.Bool.{Bool, cond}
use mathlib.Core.List.{List, [], ◌∷◌}
use lib.ListN.{length}
use Rattle.modes.specs.Found.{Types, cut, read, types_from, Tried, miss, hit}
use Rattle.modes.specs.Modes.{normal, row_of, length_fits, headed_row, normal_with, normal_at, headless_row, headless_in}
use Rattle.modes.specs.declared.inner.Style.{Style}
use Rattle.record.proofs.Numbers.{tested}
use Rattle.record.specs.Places.{types_padded, header_padded}
use Rattle.record.specs.Varint.{varint_at}
use Rattle.record.specs.Varint.{Varint}

-- what was found, with the mark q
abbrev pub marked : Bool → Tried → Tried
marked q miss = miss
marked q (hit x) = hit (record { style = x.style; at = x.at; start = x.start; types = x.types; padded = q })

module _ (q : Bool) where
  row_marked : (style : Style) (o start : ℕ) (p : Bool) (ts : List ℕ) → marked q (row_of style o start p ts) ≡ row_of style o start q ts
  row_marked style o start p [] = refl
  row_marked style o start p (t ∷ ts) = refl

  headed_marked : (o h : ℕ) (p : Bool) (ts : Types) → marked q (headed_row o h p ts) ≡ headed_row o h q ts
  headed_marked o h p cut = refl
  headed_marked o h p (read ts end) = row_marked normal o (o + h) p ts

  headless_row_marked : (style : Style) (p : Bool) (ts : Types) → marked q (headless_row style p ts) ≡ headless_row style q ts
  headless_row_marked style p cut = refl
  headless_row_marked style p (read ts end) = row_marked style 0 end p ts

  -- Normal, where every row has the mark q
  abbrev pub marked_with : List ℕ → ℕ → ℕ → Varint → Tried
  marked_with s columns o (Some (h, c)) = cond (length_fits (length s) o (c.at - o) h) (headed_row o h q (types_from columns s c.at (o + h))) miss
  marked_with s columns o None = miss

  -- THE LAW: Normal is that one, but for the mark,
  pub normal_marked : (s : List ℕ) (columns o : ℕ) → marked q (normal_at s columns o) ≡ marked_with s columns o (varint_at s o)
  unfolding normal_at
  normal_marked s columns o = by_length (varint_at s o)
    where
      by_length : (v : Varint) → marked q (normal_with s columns o v) ≡ marked_with s columns o v
      by_length None = refl
      by_length (Some (h, c)) =
          tested (marked q) (length_fits (length s) o (c.at - o) h) _ miss (headed_marked o h (header_padded columns s c (o + h)) (types_from columns s c.at (o + h))) refl

  -- and so are the other two
  pub headless_marked : (style : Style) (s : List ℕ) (from most : ℕ) → marked q (headless_in style s from most) ≡ headless_row style q (types_from most s from (length s))
  unfolding headless_in
  headless_marked style s from most = headless_row_marked style (types_padded most s from (length s)) (types_from most s from (length s))
