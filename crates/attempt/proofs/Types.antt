-- The types of a header: how reading goes on, what matching and the totals come to, and where reading stops.
-- Assumes nothing.
use Rattle.std.specs.Prelude.{None, Some}
use Prim.Native.Nat.{ℕ, zero, suc, ◌+◌, ◌≤◌, ◌<◌, min}
use mathlib.Core.Path.{◌≡◌, refl, sym, ap, ◌∙◌}
use mathlib.Core.Bool.{Bool, true, ◌||◌}
use mathlib.Core.List.{List, [], ◌∷◌}
use native.Mathlib.Omega.{arith}
use lib.ListN.{length, drop, length-append}
use lib.Seq.{drop-drop}
use borrow.Author.Tests.{lt-ltb, le-ltb}
use Rattle.record.proofs.Laws.{varint_reach, places_count}
use Rattle.record.proofs.Numbers.{by_order}
use Rattle.record.proofs.Types.{places_step, places_cut, places_none, places_end, padded_step, padded_none, padded_end, marked_step, marked_end}
use Rattle.record.specs.Places.{stop_of, varint_places, type_places, types_padded}
use Rattle.record.specs.Varint.{varint_at}
use Rattle.record.specs.declared.varint.Cursor.{Cursor}
use Rattle.record.specs.Varint.{Varint}
use Rattle.attempt.specs.Attempt.{Types, ended, cut, kind, kinds, is_whole, types_from}
use Rattle.attempt.specs.Hints.{suited}
use Rattle.attempt.specs.Inner.{suits_at, too_long, body_size, total_from, reach, Walked, WholeIs}

-- ---- reading on
module _ (f : ℕ) (s : List ℕ) (at stop : ℕ) where
  pub types_step : (t : ℕ) (c : Cursor) → at < stop → varint_at s at ≡ Some (t, c) → types_from (suc f) s at stop ≡ kind t (types_from f s c.at stop)
  unfolding types_from
  types_step t c h e = simp (lt-ltb at stop h, e)

  pub types_cut : at < stop → varint_at s at ≡ None → types_from (suc f) s at stop ≡ cut
  unfolding types_from
  types_cut h e = simp (lt-ltb at stop h, e)

pub types_none : (s : List ℕ) (at stop : ℕ) → types_from 0 s at stop ≡ ended at
unfolding types_from
types_none s at stop = refl

pub types_end_lem : (f : ℕ) (s : List ℕ) (at stop : ℕ) → stop ≤ at → types_from f s at stop ≡ ended at
unfolding types_from
types_end_lem zero s at stop h = refl
types_end_lem (suc f) s at stop h = simp (le-ltb at stop h)

-- ---- matching and totals

pub suited_step : (hints : List ℕ) (k t : ℕ) (ts : List ℕ) → suited (drop k hints) (t ∷ ts) ≡ suits_at hints k t + suited (drop (k + 1) hints) ts
suited_step hints k t ts = rw (← drop-drop 1 k hints) (go (drop k hints))
  where
    none : (ts : List ℕ) → suited [] ts ≡ 0
    none [] = refl
    none (t ∷ ts) = refl

    go : (l : List ℕ) → suited l (t ∷ ts) ≡ suited l (t ∷ []) + suited (drop 1 l) ts
    go [] = omega (arith, none ts)
    go (h ∷ hs) = omega arith

pub total_most : (total : ℕ) (ts : List ℕ) → total ≤ too_long → total_from total ts ≤ too_long
unfolding total_from
total_most total [] h = h
total_most total (t ∷ ts) h = total_most (min too_long (total + body_size t)) ts (omega arith)

pub total_least : (total : ℕ) (ts : List ℕ) → total ≤ too_long → total ≤ total_from total ts
unfolding total_from
total_least total [] h = omega arith
total_least total (t ∷ ts) h = let z = total_least (min too_long (total + body_size t)) ts (omega arith) in omega arith

-- ---- what has been read so far, with what is left, comes to the whole

pub record Along (s hints : List ℕ) (w r : Types) (count matched total : ℕ) : Type 0 where
  pub whole_is : is_whole w ≡ is_whole r
  pub reach_is : reach s w ≡ reach s r
  pub count_is : length (kinds w) ≡ count + length (kinds r)
  pub matched_is : suited hints (kinds w) ≡ matched + suited (drop count hints) (kinds r)
  pub total_is : total_from 0 (kinds w) ≡ total_from total (kinds r)

-- with fuel for what is left; p is the whole header's mark, and `mark` that of what has been read
pub Left : (s hints : List ℕ) (w : Types) (p : Bool) (at stop count matched total : ℕ) (mark : Bool) → Type 0
Left s hints w p at stop count matched total mark =
    (f : ℕ) × (stop ≤ at + f) × Along s hints w (types_from f s at stop) count matched total × (p ≡ (mark || types_padded f s at stop))

pub left_start : (f : ℕ) (s hints : List ℕ) (at stop : ℕ) (p mark : Bool) → stop ≤ at + f → p ≡ (mark || types_padded f s at stop)
    → Left s hints (types_from f s at stop) p at stop 0 0 0 mark
unfolding Left
left_start f s hints at stop p mark h m = (
  f,
  h,
  record { whole_is = refl; reach_is = refl; count_is = omega arith; matched_is = omega arith; total_is = refl },
  m,
)

module _ (s hints : List ℕ) (w : Types) (at stop count matched total : ℕ) where
  -- one type more was read,
  pub along_step : (f t : ℕ) (c : Cursor) → at < stop → varint_at s at ≡ Some (t, c) → Along s hints w (types_from (suc f) s at stop) count matched total
      → Along s hints w (types_from f s c.at stop) (count + 1) (matched + suits_at hints count t) (min too_long (total + body_size t))
  unfolding total_from
  along_step f t c h e a =
      let b : Along s hints w (kind t (types_from f s c.at stop)) count matched total = rw (types_step f s at stop t c h e) at a in
      record {
        whole_is = b.whole_is;
        reach_is = b.reach_is;
        count_is = omega (arith, b.count_is);
        matched_is = omega (arith, b.matched_is, suited_step hints count t (kinds (types_from f s c.at stop)));
        total_is = b.total_is;
      }

module _ (s hints : List ℕ) (w : Types) (p : Bool) (at stop count matched total : ℕ) (mark : Bool) where
  -- or none is left
  pub along_end : Along s hints w (ended at) count matched total → p ≡ mark → WholeIs s hints w p count matched total at mark
  unfolding total_from
  along_end b m =
      record {
        is_whole_lem = b.whole_is;
        counts = omega (arith, b.count_is);
        matches = omega (arith, b.matched_is);
        totals = b.total_is;
        ends = b.reach_is;
        marks = m;
      }

  pub left_step : (t : ℕ) (c : Cursor) → at < stop → at < c.at → varint_at s at ≡ Some (t, c) → Left s hints w p at stop count matched total mark
      → Left s hints w p c.at stop (count + 1) (matched + suits_at hints count t) (min too_long (total + body_size t)) (mark || c.padded)
  unfolding Left
  left_step t c h q e (zero, k, a, m) = absurd (omega arith)
  left_step t c h q e (suc f, k, a, m) = (
    f,
    omega arith,
    along_step s hints w at stop count matched total f t c h e a,
    marked_step f s at stop t c p mark h e m,
  )

  pub left_cut : at < stop → varint_at s at ≡ None → Left s hints w p at stop count matched total mark → Walked s hints w p None
  unfolding Left
  left_cut h e (zero, k, a, m) = absurd (omega arith)
  left_cut h e (suc f, k, a, m) = let b = rw (types_cut f s at stop h e) at a in b.whole_is

  pub left_end : stop ≤ at → Left s hints w p at stop count matched total mark → Walked s hints w p (Some (record { count = count; matched = matched; total = total; end = at; padded = mark }))
  unfolding Left
  left_end h (f, k, a, m) = along_end (rw (types_end_lem f s at stop h) at a) (marked_end f s at stop p mark (padded_end f s at stop h) m)

-- ---- where reading stops

-- all bytes up to there are read; it lies in the region, and at most 8 behind the header's end
pub record Stops (s : List ℕ) (at stop : ℕ) (ts : Types) (places : List ℕ) : Type 0 where
  pub counts : at + length places ≡ reach s ts
  pub inside : reach s ts ≤ length s
  pub near : at ≤ stop → reach s ts ≤ stop + 8

module _ (s : List ℕ) (stop : ℕ) where
  -- reading up to where it ended, instead of to the stop
  abbrev pub ToEnd : (f at g : ℕ) → Type 0
  ToEnd f at g =
      let end = reach s (types_from f s at stop) in
      (types_from g s at end ≡ types_from f s at stop) × (types_padded g s at end ≡ types_padded f s at stop)

  stops_here : (at : ℕ) → at ≤ length s → Stops s at stop (ended at) []
  stops_here at h = record { counts = omega arith; inside = h; near = λ l. omega arith }

  pub stops : (f at : ℕ) → at ≤ length s → Stops s at stop (types_from f s at stop) (type_places f s at stop)
  stops zero at h = rw (types_none s at stop, places_none s at stop) (stops_here at h)
  stops (suc f) at h =
      by_order at stop (λ lt. go lt (varint_at s at) refl (λ c k. stops f c k))
      (λ ge. rw (types_end_lem (suc f) s at stop ge, places_end (suc f) s at stop ge) (stops_here at h))
    where
      go : at < stop → (v : Varint) → varint_at s at ≡ v → ((c : ℕ) → c ≤ length s → Stops s c stop (types_from f s c stop) (type_places f s c stop))
          → Stops s at stop (types_from (suc f) s at stop) (type_places (suc f) s at stop)
      go lt (Some (t, c)) e rest =
          let z = varint_reach s at in
          let y : stop_of s (varint_at s at) ≡ c.at = ap (stop_of s) e in
          let p = z.whole t c e in
          let r = rest c.at (omega (arith, z.inside)) in
          let n = length-append (varint_places s at) (type_places f s c.at stop) in
          let last : stop ≤ c.at → reach s (types_from f s c.at stop) ≡ c.at = λ ge. ap (reach s) (types_end_lem f s c.at stop ge) in
          rw (types_step f s at stop t c lt e, places_step f s at stop t c lt e)
          (record {
            counts = omega (arith, n, places_count s at, r.counts);
            inside = r.inside;
            near = λ _. by_order stop c.at (λ past. omega (arith, last (omega arith), z.near)) (λ before. r.near before);
          })
      go lt None e rest =
          let z = varint_reach s at in
          let y : stop_of s (varint_at s at) ≡ length s = ap (stop_of s) e in
          let n = length-append (varint_places s at) [] in
          rw (types_cut f s at stop lt e, places_cut f s at stop lt e)
          (record { counts = omega (arith, n, places_count s at); inside = omega arith; near = λ _. omega (arith, z.near) })

  -- THE LAW: types that end before their stop are those up to where they end, and so is their mark
  pub types_to_end : (f at g : ℕ) → at ≤ length s → is_whole (types_from f s at stop) ≡ true → reach s (types_from f s at stop) < stop
      → reach s (types_from f s at stop) ≤ at + g → ToEnd f at g
  types_to_end zero at g in' w lt h = rw (types_none s at stop, padded_none s at stop) (types_end_lem g s at at (omega arith), padded_end g s at at (omega arith))
  types_to_end (suc f) at g in' w lt h =
      by_order at stop (λ more. go more (varint_at s at) refl (λ c k. types_to_end f c k))
      (λ ge. absurd (omega (arith, ap (reach s) (types_end_lem (suc f) s at stop ge))))
    where
      go : at < stop → (v : Varint) → varint_at s at ≡ v
          → ((c k : ℕ) → c ≤ length s → is_whole (types_from f s c stop) ≡ true → reach s (types_from f s c stop) < stop → reach s (types_from f s c stop) ≤ c + k
          → ToEnd f c k)
          → ToEnd (suc f) at g
      go more None e rest = let q = rw (types_cut f s at stop more e) at w in let z : ◌≡◌ {A = ℕ} 0 1 = cc in absurd (omega arith)
      go more (Some (t, c)) e rest = fuelled g h
        where
          same : types_from (suc f) s at stop ≡ kind t (types_from f s c.at stop)
          same = types_step f s at stop t c more e

          on : (at < c.at) × (c.at ≤ length s) × (c.at ≤ reach s (types_from f s c.at stop))
          on =
              let z = varint_reach s at in
              let y : stop_of s (varint_at s at) ≡ c.at = ap (stop_of s) e in
              (z.whole t c e, omega (arith, z.inside), omega (arith, (stops f c.at (omega (arith, z.inside))).counts))

          fuelled : (g : ℕ) → reach s (types_from (suc f) s at stop) ≤ at + g → ToEnd (suc f) at g
          fuelled zero h = absurd (omega (arith, on, ap (reach s) same))
          fuelled (suc k) h =
              let r = ap (reach s) same in
              let end = reach s (types_from f s c.at stop) in
              let q = rest c.at k on.1 (sym (ap is_whole same) ∙ w) (omega arith) (omega (arith, on)) in
              rw (same, padded_step f s at stop t c more e) (
                types_step k s at end t c (omega (arith, on)) e ∙ rw q.0,
                padded_step k s at end t c (omega (arith, on)) e ∙ rw q.1,
              )
