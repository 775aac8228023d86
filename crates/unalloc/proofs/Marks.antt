-- The mark decides nothing: without it carving by learned types finds what it found when there was none.
-- Assumes nothing.
use Rattle.std.specs.Prelude.{None, Some}
use Prim.Native.Nat.{ℕ, ◌+◌, ◌-◌}
use mathlib.Core.Path.{◌≡◌, refl}
use mathlib.Core.Bool.{Bool, cond, ◌&&◌}
use mathlib.Core.List.{List}
use lib.Dec.{ltb}
use lib.ListN.{length}
use Rattle.modes.proofs.Marks.{marked}
use Rattle.modes.specs.Found.{Types, cut, read, types_from, columns_from, Tried, miss}
use Rattle.record.proofs.Numbers.{tested}
use Rattle.record.specs.Places.{header_padded}
use Rattle.record.specs.Varint.{varint_at}
use Rattle.record.specs.Varint.{Varint}
use Rattle.unalloc.specs.Learned.{matched, all_there, header_fits, judged, judged_types, attempt_with, attempt_at}

module _ (q : Bool) (s ls : List ℕ) (o : ℕ) where
  judged_marked : (h : ℕ) (p : Bool) (ts : Types) → marked q (judged_types s ls o h p ts) ≡ judged_types s ls o h q ts
  unfolding judged
  judged_marked h p cut = refl
  judged_marked h p (read ts end) = tested (marked q) (ltb 0 (matched ls ts) && all_there (columns_from (length s) (o + h) ts)) _ miss refl refl

  -- an attempt whose every row has the mark q
  abbrev pub marked_with : Varint → Tried
  marked_with (Some (h, c)) = cond (header_fits (length s) o (c.at - o) h) (judged_types s ls o h q (types_from (length ls) s c.at (o + h))) miss
  marked_with None = miss

  -- THE LAW: an attempt is that one, but for the mark
  pub attempt_marked : marked q (attempt_at s ls o) ≡ marked_with (varint_at s o)
  unfolding attempt_at
  attempt_marked = by_length (varint_at s o)
    where
      by_length : (v : Varint) → marked q (attempt_with s ls o v) ≡ marked_with v
      by_length None = refl
      by_length (Some (h, c)) =
          tested (marked q) (header_fits (length s) o (c.at - o) h) _ miss (judged_marked h (header_padded (length ls) s c (o + h)) (types_from (length ls) s c.at (o + h))) refl
