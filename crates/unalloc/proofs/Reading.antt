-- The types of a header, one after the other: what was read so far, with the bodies that fit and the types that match.
-- Assumes nothing.
use Rattle.std.specs.Prelude.{None, Some}
use Prim.Native.Nat.{ℕ, ◌+◌, ◌≤◌, ◌<◌}
use mathlib.Core.Path.{◌≡◌, refl, ap, ◌∙◌}
use mathlib.Core.Bool.{Bool, true, false, cond, ◌&&◌, ◌||◌}
use mathlib.Core.List.{List, [], ◌∷◌, ◌++◌}
use native.Mathlib.Omega.{arith}
use lib.ListN.{length, get_or, length-append}
use Rattle.modes.proofs.Bodies.{columns_nil, columns_one, columns_first, end_nil, end_one, behind_inside}
use Rattle.modes.proofs.Reading.{SoFar, so_start, so_on, so_cut, so_past, so_all, so_first}
use Rattle.modes.specs.Found.{Types, cut, read, types_from, column_at, behind, columns_from, end_from}
use Rattle.record.specs.Places.{types_padded}
use Rattle.record.specs.Varint.{varint_at}
use Rattle.record.specs.declared.varint.Cursor.{Cursor}
use Rattle.sheet.specs.declared.columns.Column.{Column}
use Rattle.unalloc.specs.Inner.{matches_at, AllIs, FailsIs}
use Rattle.unalloc.specs.Learned.{matches, matched, is_there, all_there}
use Rattle.unalloc.proofs.Matching.{matched_one}

-- ---- columns of which all have their bodies
there_one : (cs : List Column) (c : Column) → all_there cs ≡ true → is_there c ≡ true → all_there (cs ++ (c ∷ [])) ≡ true
there_one [] c a t = rw t
there_one (d ∷ cs) c a t = go (is_there d) a (λ b. there_one cs c b t)
  where
    go : (b : Bool) → (b && all_there cs) ≡ true → (all_there cs ≡ true → all_there (cs ++ (c ∷ [])) ≡ true) → (b && all_there (cs ++ (c ∷ []))) ≡ true
    go true e rest = rest e
    go false e rest = e

-- and one that has none
there_not : (cs : List Column) (c : Column) (ds : List Column) → is_there c ≡ false → all_there ((cs ++ (c ∷ [])) ++ ds) ≡ false
there_not [] c ds t = rw t
there_not (d ∷ cs) c ds t = go (is_there d) (there_not cs c ds t)
  where
    go : (b : Bool) → all_there ((cs ++ (c ∷ [])) ++ ds) ≡ false → (b && all_there ((cs ++ (c ∷ [])) ++ ds)) ≡ false
    go true rest = rest
    go false rest = refl

-- one type matches, or none does
one : (b : Bool) → cond b 1 0 ≤ 1
one true = omega arith
one false = omega arith

-- of the types `whole`, with the mark p, so many were read, up to `at`, with the mark `padded`; n of them match, and the last body ends at
-- `end`
pub record ReadSoFar (s ls : List ℕ) (stop : ℕ) (whole : Types) (p : Bool) (at : ℕ) (padded : Bool) (end count n : ℕ) : Type 0 where
  pub done : List ℕ
  pub counts : length done ≡ count
  pub so : SoFar s stop whole p (length ls) at padded done
  pub matches_are : matched ls done ≡ n
  pub ends : end_from (length s) stop done ≡ end
  pub there : all_there (columns_from (length s) stop done) ≡ true
  pub inside : end ≤ length s
  pub few : n ≤ count

pub reading_start : (s ls : List ℕ) (from stop : ℕ) → stop ≤ length s
    → ReadSoFar s ls stop (types_from (length ls) s from stop) (types_padded (length ls) s from stop) from false stop 0 0
reading_start s ls from stop h =
    record {
      done = [];
      counts = refl;
      so = so_start s from stop (length ls);
      matches_are = none ls;
      ends = end_nil (length s) stop;
      there = rw (columns_nil (length s) stop);
      inside = h;
      few = omega arith;
    }
  where
    none : (ls : List ℕ) → matched ls [] ≡ 0
    none [] = refl
    none (l ∷ ls) = refl

module _ (s ls : List ℕ) (stop : ℕ) (whole : Types) (p : Bool) (at : ℕ) (padded : Bool) (end count n : ℕ) (w : ReadSoFar s ls stop whole p at padded end count n) where
  module _ (h : count < length ls) (below : at < stop) where
    more : length w.done < length ls
    more = rw w.counts h

    pub reading_cut : varint_at s at ≡ None → FailsIs s stop whole
    reading_cut e = rw (so_cut s stop whole p (length ls) at padded w.done w.so more below e) tt

    module _ (t : ℕ) (c : Cursor) (e : varint_at s at ≡ Some (t, c)) where
      on : SoFar s stop whole p (length ls) c.at (padded || c.padded) (w.done ++ (t ∷ []))
      on = so_on s stop whole p (length ls) at padded w.done w.so more below t c e

      -- the body that comes
      next : column_at (length s) (end_from (length s) stop w.done) t ≡ column_at (length s) end t
      next = ap (λ (k : ℕ). column_at (length s) k t) w.ends

      pub reading_out : is_there (column_at (length s) end t) ≡ false → FailsIs s stop whole
      reading_out f = go whole refl
        where
          go : (v : Types) → whole ≡ v → FailsIs s stop v
          go cut v = tt
          go (read ts end') v =
              let first = so_first s stop whole p (length ls) c.at (padded || c.padded) (w.done ++ (t ∷ [])) on ts end' v in
              let columns : columns_from (length s) stop ts ≡ (columns_from (length s) stop w.done ++ (column_at (length s) end t ∷ [])) ++ columns_from (length s) (end_from (length s) stop (w.done ++ (t ∷ []))) first.0
              = ap (λ (l : List ℕ). columns_from (length s) stop l) first.1 ∙ columns_first (length s) stop (w.done ++ (t ∷ [])) first.0 ∙ rw (columns_one (length s) stop w.done t, next) in
              rw columns (there_not (columns_from (length s) stop w.done) (column_at (length s) end t) (columns_from (length s) (end_from (length s) stop (w.done ++ (t ∷ []))) first.0) f)

      pub reading_on : is_there (column_at (length s) end t) ≡ true → (m : ℕ) → m ≡ n + matches_at ls count t
          → ReadSoFar s ls stop whole p c.at (padded || c.padded) (behind end (column_at (length s) end t)) (count + 1) m
      reading_on f m is =
          record {
            done = w.done ++ (t ∷ []);
            counts = simp length-append (omega (arith, w.counts));
            so = on;
            matches_are = matched_one ls w.done t more ∙ rw (w.matches_are, w.counts, is);
            ends = end_one (length s) stop w.done t ∙ rw w.ends;
            there = rw (columns_one (length s) stop w.done t, next) (there_one (columns_from (length s) stop w.done) (column_at (length s) end t) w.there f);
            inside = (behind_inside (length s) end t w.inside).1;
            few = omega (arith, w.few, is, one (matches t (get_or ls count 0)));
          }

  ended : (whole ≡ read w.done at) × (p ≡ padded) → AllIs s ls stop whole p count n padded
  ended e = record { types = w.done; end = at; is = e.0; counts = w.counts; matches_are = w.matches_are; there = w.there; few = w.few; marks = e.1 }

  pub reading_past : stop ≤ at → AllIs s ls stop whole p count n padded
  reading_past h = ended (so_past s stop whole p (length ls) at padded w.done w.so h)

  pub reading_all : length ls ≡ count → AllIs s ls stop whole p (length ls) n padded
  reading_all e = rw e (ended (so_all s stop whole p (length ls) at padded w.done w.so (omega (arith, w.counts))))
