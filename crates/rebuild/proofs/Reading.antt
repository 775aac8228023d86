-- As many types as columns, one after the other: those that were read, with those to come, are all that the exact mode reads.
-- Assumes nothing.
use Rattle.std.specs.Prelude.{None, Some}
use Prim.Native.Nat.{ℕ, zero, suc, ◌+◌, ◌-◌, ◌≤◌, ◌<◌, min}
use mathlib.Core.Path.{◌≡◌, refl, ap, ◌∙◌}
use mathlib.Core.Bool.{Bool, true, false, ◌||◌}
use mathlib.Core.List.{List}
use native.Mathlib.Omega.{arith}
use borrow.Author.Tests.{le-leb, lt-leb}
use lib.ListN.{length}
use Rattle.attempt.proofs.Judging.{long_miss}
use Rattle.attempt.proofs.Types.{types_none, types_end_lem, types_cut, Along, along_step, along_end, stops, total_least}
use Rattle.record.proofs.Types.{padded_none, marked_step, marked_end}
use Rattle.record.specs.Places.{types_padded}
use Rattle.attempt.specs.Attempt.{Types, ended, cut, kind, kinds, is_whole, types_from, miss, judged_whole}
use Rattle.attempt.specs.Inner.{suits_at, too_long, body_size, total_from, reach, header_types, Headed}
use Rattle.rebuild.specs.Header.{most_type_bytes, Guess, no_header, takes, exact_types, taken_from, guessed, rebuilt}
use Rattle.rebuild.specs.Inner.{exact_padded, Taken}
use Rattle.rebuild.specs.declared.rebuilding.Rebuilding.TheVariants.{Exact}
use Rattle.rebuild.proofs.From.{guess_small, header_is}
use Rattle.rebuild.proofs.Laws.{rebuilt_none, rebuilt_miss}
use Rattle.record.specs.Varint.{varint_at}
use Rattle.record.specs.declared.varint.Cursor.{Cursor}
use Rattle.sheet.specs.Limits.{most_columns}

-- ---- the bytes of types, by whether they are whole and where they end
taken_whole : (s : List ℕ) (v : ℕ) (ts : Types) → is_whole ts ≡ true → taken_from v ts ≡ taken_from v (ended (reach s ts))
taken_whole s v (ended at) w = refl
taken_whole s v cut w = let z : ◌≡◌ {A = ℕ} 0 1 = cc in absurd (omega arith)
taken_whole s v (kind t rest) w = taken_whole s v rest w

taken_cut : (v : ℕ) (ts : Types) → is_whole ts ≡ false → taken_from v ts ≡ no_header
taken_cut v (ended at) w = let z : ◌≡◌ {A = ℕ} 0 1 = cc in absurd (omega arith)
taken_cut v cut w = refl
taken_cut v (kind t rest) w = taken_cut v rest w

module _ (d hints : List ℕ) (v : ℕ) where
  abbrev all : Types
  all = exact_types d (length hints) v

  abbrev stop : ℕ
  stop = v + suc most_type_bytes

  abbrev mark_all : Bool
  mark_all = exact_padded d (length hints) v

  too_long_lem : (end : ℕ) → v + most_type_bytes < end → is_whole all ≡ true → reach d all ≡ end → rebuilt Exact d hints v ≡ miss
  unfolding guessed
  too_long_lem end far w e =
      rebuilt_none Exact d hints v (taken_whole d v all w ∙ rw e (rw (lt-leb (end - v) most_type_bytes (omega arith))))

  -- so many were read, with this mark, and so many are to come
  pub record Reading (at count matched total : ℕ) (mark : Bool) : Type 0 where
    pub left : ℕ
    pub sum : count + left ≡ length hints
    pub along : Along d hints all (types_from left d at stop) count matched total
    pub marks : mark_all ≡ (mark || types_padded left d at stop)

  pub reading_start : Reading v 0 0 0 false
  reading_start =
      record {
        left = length hints;
        sum = omega arith;
        along = record { whole_is = refl; reach_is = refl; count_is = omega arith; matched_is = omega arith; total_is = refl };
        marks = refl;
      }

  module _ (at count matched total : ℕ) (mark : Bool) (r : Reading at count matched total mark) where
    pub reading_step : (t : ℕ) (c : Cursor) → count < length hints → at ≤ v + most_type_bytes → varint_at d at ≡ Some (t, c)
        → Reading c.at (count + 1) (matched + suits_at hints count t) (min too_long (total + body_size t)) (mark || c.padded)
    reading_step t c more near e = go r.left r.sum r.along r.marks
      where
        go : (f : ℕ) → count + f ≡ length hints → Along d hints all (types_from f d at stop) count matched total → mark_all ≡ (mark || types_padded f d at stop)
            → Reading c.at (count + 1) (matched + suits_at hints count t) (min too_long (total + body_size t)) (mark || c.padded)
        go zero q a m = absurd (omega arith)
        go (suc f) q a m =
            record {
              left = f;
              sum = omega arith;
              along = along_step d hints all at stop count matched total f t c (omega arith) e a;
              marks = marked_step f d at stop t c mark_all mark (omega arith) e m;
            }

    -- a type runs off
    pub reading_cut : count < length hints → at ≤ v + most_type_bytes → varint_at d at ≡ None → rebuilt Exact d hints v ≡ miss
    unfolding guessed
    reading_cut more near e = rebuilt_none Exact d hints v (go r.left r.sum r.along)
      where
        go : (f : ℕ) → count + f ≡ length hints → Along d hints all (types_from f d at stop) count matched total → taken_from v all ≡ no_header
        go zero q a = absurd (omega arith)
        go (suc f) q a = let b = rw (types_cut f d at stop (omega arith) e) at a in taken_cut v all b.whole_is

    -- they pass 510 bytes
    pub reading_over : v + most_type_bytes < at → rebuilt Exact d hints v ≡ miss
    reading_over far =
        let a = rw (types_end_lem r.left d at stop (omega arith)) at r.along in
        too_long_lem at far a.whole_is a.reach_is

    -- the bodies of those that were read pass the payload
    pub reading_long : v ≤ length d → 1 ≤ length hints → length hints ≤ most_columns → at ≤ length d → total ≤ too_long → length d - at < total → rebuilt Exact d hints v ≡ miss
    reading_long start some few in' most far = go (guessed Exact d (length hints) v) refl
      where
        go : (g : Guess) → guessed Exact d (length hints) v ≡ g → rebuilt Exact d hints v ≡ miss
        go no_header g = rebuilt_none Exact d hints v g
        go (takes t) g =
            let small = guess_small d v start Exact (length hints) t some few g in
            let h = header_is d v start (length hints) t g in
            let ends = (stops d stop r.left at in').counts in
            let over : length d - v < t + total_from 0 (kinds all) =
            omega (arith, h.1, h.2, r.along.reach_is, ends, r.along.total_is, total_least total (kinds (types_from r.left d at stop)) most) in
            rebuilt_miss d hints v start t small.0 small.1 Exact g (omega (arith, h.2))
            (ap (λ (ts : Types). judged_whole (length d) hints v t (types_padded t d v (v + t)) ts) h.0
            ∙ long_miss (length d) hints v t (types_padded t d v (v + t)) all (omega (arith, h.2)) over)

    -- all were read
    pub reading_end : length hints ≤ count → 1 ≤ length hints → v + count ≤ at → at ≤ v + most_type_bytes → Taken d hints v matched total at mark
    reading_end whole some past near =
        let none : r.left ≡ 0 = omega (arith, r.sum) in
        let n : count ≡ length hints = omega (arith, r.sum) in
        let m = marked_end 0 d at stop mark_all mark (padded_none d at stop) (rw none at r.marks) in
        let w = along_end d hints all mark_all at stop count matched total mark (rw (none, types_none d at stop) at r.along) m in
        record { whole = rw n at w; past = omega arith; near = near }

  -- ---- the header that they make: its types are these, and it lies in the payload
  module _ (matched total end : ℕ) (padded : Bool) (start : v ≤ length d) (t : Taken d hints v matched total end padded) where
    pub taken_guess : guessed Exact d (length hints) v ≡ takes (end - v)
    unfolding guessed
    taken_guess =
        taken_whole d v all t.whole.is_whole_lem ∙ rw t.whole.ends (rw (le-leb (end - v) most_type_bytes (omega (arith, t.near))))

    pub taken_header : header_types d v (end - v) v ≡ all
    taken_header = (header_is d v start (length hints) (end - v) taken_guess).0

    pub taken_mark : types_padded (end - v) d v (v + (end - v)) ≡ mark_all
    taken_mark = (header_is d v start (length hints) (end - v) taken_guess).3

    pub taken_inside : end ≤ length d
    taken_inside = omega (arith, (header_is d v start (length hints) (end - v) taken_guess).2)

    pub taken_headed : Headed d v (end - v) v
    taken_headed =
        record {
          low = omega (arith, t.past);
          high = omega (arith, t.near);
          inside = omega (arith, taken_inside, t.past);
          past = omega arith;
          near = omega arith;
          within = start;
        }
