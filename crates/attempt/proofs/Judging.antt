-- The ways out of an attempt: what each says of the definition, and of the header places.
-- Assumes nothing.
use Rattle.std.specs.Prelude.{None, Some}
use Prim.Native.Nat.{ℕ, ◌+◌, ◌-◌, ◌≤◌, ◌<◌}
use mathlib.Core.Path.{◌≡◌, refl, ap, ◌∙◌}
use mathlib.Core.Bool.{Bool, true, false, false≢true, ◌&&◌}
use mathlib.Core.List.{List, [], ◌++◌}
use native.Mathlib.Omega.{arith}
use lib.Dec.{leb}
use lib.ListN.{length, length-append}
use borrow.Author.Tests.{le-leb, leb-true}
use Rattle.record.proofs.Laws.{varint_lies, varint_reach, places_length, places_are, places_count}
use Rattle.record.proofs.Numbers.{by_order, by_test}
use Rattle.record.specs.Places.{places_from, stop_of, varint_places, type_places, header_padded}
use Rattle.record.specs.Varint.{varint_at}
use Rattle.record.specs.declared.varint.Cursor.{Cursor}
use Rattle.attempt.specs.Attempt.{Types, ended, cut, kind, kinds, is_whole, miss, judged, judged_whole, header_fits, attempt_at, most_bytes}
use Rattle.attempt.specs.Inner.{reach, header_types, total_from, Headed, WholeIs, MissIs, HitIs, judged_header}
use Rattle.attempt.specs.Places.{most_places, attempt_places}
use Rattle.attempt.proofs.Bodies.{total_min, miss_count, miss_total, hit_total}
use Rattle.attempt.proofs.Types.{stops, types_end_lem}
use Rattle.sheet.specs.Limits.{most_header}

cut_reach : (s : List ℕ) (ts : Types) → is_whole ts ≡ false → reach s ts ≡ length s
cut_reach s (ended at) e = let z : ◌≡◌ {A = ℕ} 0 1 = cc in absurd (omega arith)
cut_reach s cut e = refl
cut_reach s (kind t rest) e = cut_reach s rest e

module _ (s hints : List ℕ) (o h from : ℕ) (head : Headed s o h from) where
  abbrev ts : Types
  ts = header_types s o h from

  abbrev places : List ℕ
  places = places_from o (from - o) ++ type_places h s from (o + h)

  -- the places are those up to where reading stopped, at most 520
  pub read_all : (o + length places ≡ reach s ts) × (reach s ts ≤ o + most_places)
  read_all =
      let z = stops s (o + h) h from head.within in
      let n = length-append (places_from o (from - o)) (type_places h s from (o + h)) in
      let far : reach s ts ≤ o + most_places =
      by_order (o + h) from
      (λ past. omega (arith, ap (reach s) (types_end_lem h s from (o + h) (omega arith)), head.near))
      (λ before. omega (arith, z.near before, head.high)) in
      (omega (arith, n, places_length o (from - o), z.counts, head.past), far)

  pub judge_cut : (p : Bool) → is_whole ts ≡ false → MissIs (judged_whole (length s) hints o h p ts) places (length s - o)
  judge_cut p e =
      let r = read_all in
      let c = cut_reach s ts e in
      record { misses = rw e; counts = omega arith; few = omega arith }

  -- types that are cut, or other than as many as hints
  pub judge_never : (p : Bool) → (is_whole ts ≡ true → length (kinds ts) ≡ length hints → ⊥) → MissIs (judged_whole (length s) hints o h p ts) places (reach s ts - o)
  judge_never p none = let r = read_all in record { misses = by_test (is_whole ts) whole cut_off; counts = omega arith; few = omega arith }
    where
      whole : is_whole ts ≡ true → judged_whole (length s) hints o h p ts ≡ miss
      whole e = rw e (miss_count (length s) hints o h p (kinds ts) head.inside (none e))

      cut_off : is_whole ts ≡ false → judged_whole (length s) hints o h p ts ≡ miss
      cut_off e = rw e

  module _ (p : Bool) (count matched total end : ℕ) (padded : Bool) (w : WholeIs s hints ts p count matched total end padded) where
    -- what the tests between are for
    pub end_past : (o ≤ end) × (total ≤ 65537)
    end_past =
        let r = read_all in
        (omega (arith, w.ends), omega (arith, w.totals, total_min 0 (kinds ts) (omega arith)))

    pub judge_miss : judged (length s) hints o h p (kinds ts) ≡ miss → MissIs (judged_whole (length s) hints o h p ts) places (end - o)
    judge_miss e =
        let r = read_all in
        record { misses = rw w.is_whole_lem e; counts = omega (arith, w.ends); few = omega (arith, w.ends) }

    pub judge_hit : count ≡ length hints → 0 < matched → h + total ≤ length s - o → h + total ≤ most_bytes
        → HitIs s hints o (judged_whole (length s) hints o h p ts) places
        (record { head = h; from = from; consumed = h + total; matched = matched; read = end - o; padded = padded })
    judge_hit c m in' fit =
        let r = read_all in
        let t = total_min 0 (kinds ts) (omega arith) in
        let e = hit_total (length s) hints o h p (kinds ts) head.inside (w.counts ∙ c) (omega (arith, w.matches)) (omega (arith, w.totals)) (omega (arith, w.totals)) in
        record {
          hits = rw w.is_whole_lem ((rw (w.totals, w.matches) at e) ∙ rw w.marks);
          counts = omega (arith, w.ends);
          few = omega (arith, w.ends);
          columns = w.counts ∙ c;
          bodies = omega (arith, w.totals);
          inside = omega (arith, head.inside);
          headed = head;
        }

-- THE LAW: a header whose bodies pass the region makes no row, be its types cut or whole
pub long_miss : (len : ℕ) (hints : List ℕ) (o h : ℕ) (p : Bool) (ts : Types) → o + h ≤ len → len - o < h + total_from 0 (kinds ts) → judged_whole len hints o h p ts ≡ miss
long_miss len hints o h p ts in' over =
    by_test (is_whole ts) (λ e. rw e (miss_total len hints o h p (kinds ts) in' (λ a b. omega arith))) (λ e. rw e)

-- ---- the header's length

pub fits : (len o h : ℕ) → 2 ≤ h → h ≤ most_header → h ≤ len - o → header_fits len o h ≡ true
unfolding header_fits
fits len o h low high in' = simp (le-leb 2 h low, le-leb h most_header high, le-leb h (len - o) in')

pub fits_not : (len o h : ℕ) → (2 ≤ h → h ≤ most_header → h ≤ len - o → ⊥) → header_fits len o h ≡ false
unfolding header_fits
fits_not len o h no' = go (leb 2 h) (leb h most_header) (leb h (len - o)) refl refl refl
  where
    go : (a b c : Bool) → leb 2 h ≡ a → leb h most_header ≡ b → leb h (len - o) ≡ c → (a && (b && c)) ≡ false
    go true true true p q r = absurd (no' (leb-true _ _ p) (leb-true _ _ q) (leb-true _ _ r))
    go true true false p q r = refl
    go true false c p q r = refl
    go false b c p q r = refl

module _ (s hints : List ℕ) (o : ℕ) where
  pub attempt_short : varint_at s o ≡ None → o ≤ length s → MissIs (attempt_at s hints o) (attempt_places s o) (length s - o)
  unfolding attempt_at attempt_places
  attempt_short e h =
      let y : stop_of s (varint_at s o) ≡ length s = ap (stop_of s) e in
      let n = length-append (varint_places s o) [] in
      record { misses = rw e; counts = rw e (omega (arith, n, places_count s o)); few = omega (arith, (varint_reach s o).near) }

  module _ (h : ℕ) (c : Cursor) (e : varint_at s o ≡ Some (h, c)) where
    pub attempt_bad : header_fits (length s) o h ≡ false → MissIs (attempt_at s hints o) (attempt_places s o) (c.at - o)
    unfolding attempt_at attempt_places
    attempt_bad f =
        let y : stop_of s (varint_at s o) ≡ c.at = ap (stop_of s) e in
        let n = length-append (varint_places s o) [] in
        record { misses = rw (e, f); counts = rw (e, f) (omega (arith, n, places_count s o)); few = omega (arith, (varint_lies s o h c e).nine) }

    pub attempt_is : header_fits (length s) o h ≡ true → attempt_at s hints o ≡ judged_header s hints o h c.at (header_padded h s c (o + h))
    unfolding attempt_at
    attempt_is f = simp (e, f)

module _ (s : List ℕ) (o h : ℕ) (c : Cursor) (e : varint_at s o ≡ Some (h, c)) where
  pub places_is : header_fits (length s) o h ≡ true → attempt_places s o ≡ places_from o (c.at - o) ++ type_places h s c.at (o + h)
  unfolding attempt_places
  places_is f = rw (places_are s o, e, f)

  pub headed : 2 ≤ h → h ≤ most_header → h ≤ length s - o → o ≤ length s → Headed s o h c.at
  headed low high in' l =
      let z = varint_lies s o h c e in
      record { low = omega arith; high = high; inside = omega arith; past = omega (arith, z.past); near = z.nine; within = z.inside }

pub fits_is : (len o h : ℕ) → header_fits len o h ≡ true → (2 ≤ h) × (h ≤ most_header) × (h ≤ len - o)
unfolding header_fits
fits_is len o h = go (leb 2 h) (leb h most_header) (leb h (len - o)) refl refl refl
  where
    go : (a b c : Bool) → leb 2 h ≡ a → leb h most_header ≡ b → leb h (len - o) ≡ c → (a && (b && c)) ≡ true → (2 ≤ h) × (h ≤ most_header) × (h ≤ len - o)
    go true true true p q r e = (leb-true _ _ p, leb-true _ _ q, leb-true _ _ r)
    go true true false p q r e = absurd (false≢true e)
    go true false c p q r e = absurd (false≢true e)
    go false b c p q r e = absurd (false≢true e)

pub places_short : (s : List ℕ) (o : ℕ) → varint_at s o ≡ None → attempt_places s o ≡ varint_places s o ++ []
unfolding attempt_places
places_short s o e = rw e
