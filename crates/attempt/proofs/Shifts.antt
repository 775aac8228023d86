-- A header that stands in a part of a slice, and the same header in the slice; and one whose length is made up, in bytes before it.
-- Assumes nothing.
use Rattle.std.specs.Prelude.{None, Some}
use Prim.Native.Nat.{ℕ, zero, suc, ◌+◌, ◌-◌, ◌≤◌, ◌<◌}
use mathlib.Core.Path.{◌≡◌, refl, sym, ap, ◌∙◌}
use mathlib.Core.Bool.{Bool, true, false, cond, ◌&&◌, ◌||◌}
use mathlib.Core.List.{List, [], ◌∷◌, ◌++◌}
use native.Mathlib.Nat.{add-zero, add_assoc}
use native.Mathlib.Omega.{arith}
use lib.Dec.{leb, ltb, eqb}
use lib.ListN.{length, length-append}
use lib.Seq.{get_or-append-add}
use borrow.Author.Tests.{le-leb, lt-leb}
use Rattle.attempt.specs.Attempt.{Types, kinds, is_whole, types_from, Bodies, unfit, laid, before, bodies_from, Tried, miss, hit, sized, judged, attempt_at, most_bytes}
use Rattle.attempt.specs.Hints.{suited}
use Rattle.attempt.specs.Inner.{body_size, columns_at, header_types, judged_header}
use Rattle.attempt.specs.Moved.{moved_one, moved, back_one, back}
use Rattle.attempt.proofs.Bodies.{over_laid, bodies_end, bodies_step, bodies_out, bodies_none}
use Rattle.attempt.proofs.Judging.{fits, fits_not, attempt_is, attempt_bad}
use Rattle.attempt.proofs.Types.{types_step, types_cut, types_end_lem}
use Rattle.record.proofs.Laws.{varint_lies}
use Rattle.record.proofs.Numbers.{by_order}
use Rattle.record.proofs.Shifts.{PartOf, moved_varint, varint_moved}
use Rattle.record.proofs.Types.{padded_step, padded_cut, padded_end}
use Rattle.record.specs.Places.{types_padded}
use Rattle.record.specs.Value.{body_length}
use Rattle.record.specs.Varint.{varint_at}
use Rattle.record.specs.Value.{Length}
use Rattle.record.specs.declared.varint.Cursor.{Cursor}
use Rattle.record.specs.Varint.{Varint}
use Rattle.sheet.specs.declared.columns.Column.{Column}
use Rattle.sheet.specs.declared.columns.Column.TheVariants.{Body, Unfit, Lost, Unused}
use Rattle.sheet.specs.Limits.{most_header}

-- ---- columns
pub back_moved : (by : ℕ) (cs : List Column) → back by (moved by cs) ≡ cs
back_moved by [] = refl
back_moved by (c ∷ cs) = rw (one c, back_moved by cs)
  where
    one : (c : Column) → back_one by (moved_one by c) ≡ c
    one (Body t start len) = let e : by + start - by ≡ start = omega arith in rw e
    one (Unfit t) = refl
    one Lost = refl
    one Unused = refl

-- THE LAW: columns of a part are those of the slice, laid from further on
pub moved_at : (by at : ℕ) (ts : List ℕ) → moved by (columns_at at ts) ≡ columns_at (by + at) ts
moved_at by at [] = refl
moved_at by at (t ∷ ts) = rw (moved_at by (at + body_size t) ts, ← add_assoc by at (body_size t))

-- ---- types: the same numbers, cut in both or in none, with marks p and q
pub record Alike (a b : Types) (p q : Bool) : Type 0 where
  pub whole : is_whole a ≡ is_whole b
  pub kinds_are : kinds a ≡ kinds b
  pub marks : p ≡ q

module _ {by : ℕ} {p s : List ℕ} (part : PartOf by p s) (together : by + length p ≡ length s) where
  abbrev Both : (f g at stop : ℕ) → Type 0
  Both f g at stop =
      Alike (types_from f s (by + at) (by + stop)) (types_from g p at stop) (types_padded f s (by + at) (by + stop)) (types_padded g p at stop)

  ended_both : (f g at stop : ℕ) → stop ≤ at → Both f g at stop
  ended_both f g at stop ge =
      rw (types_end_lem f s (by + at) (by + stop) (omega arith), types_end_lem g p at stop ge, padded_end f s (by + at) (by + stop) (omega arith), padded_end g p at stop ge)
      (record { whole = refl; kinds_are = refl; marks = refl })

  -- THE LAW: the types of a part are those of the slice, if both end at the same place; a bound that is high enough cuts none off
  pub types_moved : (f g at stop : ℕ) → stop ≤ at + f → stop ≤ at + g → Both f g at stop
  types_moved zero g at stop hf hg = ended_both zero g at stop (omega arith)
  types_moved (suc f) zero at stop hf hg = ended_both (suc f) zero at stop (omega arith)
  types_moved (suc f) (suc g) at stop hf hg =
      by_order at stop (λ lt. go lt (varint_at p at) refl (λ k h h'. types_moved f g k stop h h')) (ended_both (suc f) (suc g) at stop)
    where
      go : at < stop → (v : Varint) → varint_at p at ≡ v → ((k : ℕ) → stop ≤ k + f → stop ≤ k + g → Both f g k stop) → Both (suc f) (suc g) at stop
      go lt (Some (t, c)) e rest =
          let past = (varint_lies p at t c e).past in
          let e' = varint_moved part together at ∙ ap (moved_varint by) e in
          let r = rest c.at (omega arith) (omega arith) in
          let n : Cursor = record { at = by + c.at; padded = c.padded } in
          let k = padded_step f s (by + at) (by + stop) t n (omega arith) e' in
          rw (types_step f s (by + at) (by + stop) t n (omega arith) e', types_step g p at stop t c lt e, k, padded_step g p at stop t c lt e)
          (record { whole = r.whole; kinds_are = ap (λ l. t ∷ l) r.kinds_are; marks = ap (λ b. c.padded || b) r.marks })
      go lt None e rest =
          let e' = varint_moved part together at ∙ ap (moved_varint by) e in
          let k = padded_cut f s (by + at) (by + stop) (omega arith) e' in
          rw (types_cut f s (by + at) (by + stop) (omega arith) e', types_cut g p at stop lt e, k, padded_cut g p at stop lt e)
          (record { whole = refl; kinds_are = refl; marks = refl })

-- ---- bodies
abbrev moved_bodies : ℕ → Bodies → Bodies
moved_bodies by unfit = unfit
moved_bodies by (laid cs end) = laid (moved by cs) (by + end)

before_moved : (by : ℕ) (c : Column) (b : Bodies) → before (moved_one by c) (moved_bodies by b) ≡ moved_bodies by (before c b)
before_moved by c unfit = refl
before_moved by c (laid cs end) = refl

-- THE LAW: bodies of a part are those of the slice, if both end at the same place
pub bodies_moved : (by len at : ℕ) (ts : List ℕ) → bodies_from (by + len) (by + at) ts ≡ moved_bodies by (bodies_from len at ts)
bodies_moved by len at [] = bodies_end (by + len) (by + at) ∙ sym (ap (moved_bodies by) (bodies_end len at))
bodies_moved by len at (t ∷ ts) = go (body_length t) refl (λ k. bodies_moved by len k ts)
  where
    go : (l : Length) → body_length t ≡ l → ((k : ℕ) → bodies_from (by + len) (by + k) ts ≡ moved_bodies by (bodies_from len k ts))
        → bodies_from (by + len) (by + at) (t ∷ ts) ≡ moved_bodies by (bodies_from len at (t ∷ ts))
    go None l rest = bodies_none (by + len) (by + at) t ts l ∙ sym (ap (moved_bodies by) (bodies_none len at t ts l))
    go (Some n) l rest =
        by_order len (at + n)
        (λ out. bodies_out (by + len) (by + at) t ts n l (omega arith) ∙ sym (ap (moved_bodies by) (bodies_out len at t ts n l out)))
        (λ in'.
        bodies_step (by + len) (by + at) t ts n l (omega arith)
        ∙ rw (add_assoc by at n, rest (at + n)) (before_moved by (Body t at n) (bodies_from len (at + n) ts))
        ∙ sym (ap (moved_bodies by) (bodies_step len at t ts n l in')))

-- and they are, wherever the slice ends behind the part
pub laid_moved : (by len at : ℕ) (ts : List ℕ) (cs : List Column) (end all : ℕ) → by + len ≤ all → bodies_from len at ts ≡ laid cs end
    → bodies_from all (by + at) ts ≡ laid (moved by cs) (by + end)
laid_moved by len at ts cs end all h =
    over_laid len end (λ at ts cs. bodies_from all (by + at) ts ≡ laid (moved by cs) (by + end))
    (bodies_end all (by + end))
    (λ at t ts n ds l in' rest. bodies_step all (by + at) t ts n l (omega arith) ∙ rw (add_assoc by at n, rest))
    at ts cs

-- ---- a header of h bytes that has no number of its own: its types stand where it begins
abbrev pub given : List ℕ → List ℕ → ℕ → ℕ → Tried
given s hints o h = judged_header s hints o h o (types_padded h s o (o + h))

abbrev pub moved_tried : ℕ → Tried → Tried
moved_tried by miss = miss
moved_tried by (hit x) = hit (record { consumed = x.consumed; matched = x.matched; columns = moved by x.columns; padded = x.padded })

sized_moved : (by o n : ℕ) (p : Bool) (b : Bodies) → sized (by + o) n p (moved_bodies by b) ≡ moved_tried by (sized o n p b)
sized_moved by o n p unfit = refl
sized_moved by o n p (laid cs end) = let e : by + end - (by + o) ≡ end - o = omega arith in rw e (go (leb (end - o) most_bytes))
  where
    go : (b : Bool) → cond b (hit (record { consumed = end - o; matched = n; columns = moved by cs; padded = p })) miss
        ≡ moved_tried by (cond b (hit (record { consumed = end - o; matched = n; columns = cs; padded = p })) miss)
    go true = refl
    go false = refl

judged_moved : (by len : ℕ) (hints : List ℕ) (o h : ℕ) (p : Bool) (ts : List ℕ) → judged (by + len) hints (by + o) h p ts ≡ moved_tried by (judged len hints o h p ts)
unfolding judged
judged_moved by len hints o h p ts =
    rw (add_assoc by o h, bodies_moved by len (o + h) ts, sized_moved by o (suited hints ts) p (bodies_from len (o + h) ts))
    (go (eqb (length ts) (length hints) && ltb 0 (suited hints ts)))
  where
    go : (b : Bool) → cond b (moved_tried by (sized o (suited hints ts) p (bodies_from len (o + h) ts))) miss
        ≡ moved_tried by (cond b (sized o (suited hints ts) p (bodies_from len (o + h) ts)) miss)
    go true = refl
    go false = refl

-- THE LAW: what such a header of a part makes, said of the slice
pub given_moved : {by : ℕ} {p s : List ℕ} → PartOf by p s → by + length p ≡ length s → (hints : List ℕ) (o h : ℕ) → given s hints (by + o) h ≡ moved_tried by (given p hints o h)
given_moved {by} {p} {s} part together hints o h =
    let a = types_moved part together h h o (o + h) (omega arith) (omega arith) in
    rw (add_assoc by o h, a.whole, a.kinds_are, a.marks, ← together, judged_moved by (length p) hints o h (types_padded h p o (o + h)) (kinds (header_types p o h o)))
    (go (is_whole (header_types p o h o)))
  where
    go : (b : Bool) → cond b (moved_tried by (judged (length p) hints o h (types_padded h p o (o + h)) (kinds (header_types p o h o)))) miss
        ≡ moved_tried by (cond b (judged (length p) hints o h (types_padded h p o (o + h)) (kinds (header_types p o h o))) miss)
    go true = refl
    go false = refl

-- ---- the same header behind its length, which is made up and has k bytes itself
abbrev pub longer : ℕ → Tried → Tried
longer k miss = miss
longer k (hit x) =
    cond (leb (k + x.consumed) most_bytes)
    (hit (record { consumed = k + x.consumed; matched = x.matched; columns = moved k x.columns; padded = x.padded }))
    miss

sized_longer : (k n : ℕ) (p : Bool) (b : Bodies) → sized 0 n p (moved_bodies k b) ≡ longer k (sized 0 n p b)
sized_longer k n p unfit = refl
sized_longer k n p (laid cs end) =
    let e : k + end - 0 ≡ k + end = omega arith in
    let e' : end - 0 ≡ end = omega arith in
    rw (e, e')
    (by_order most_bytes (k + end) (λ over. simp (lt-leb (k + end) most_bytes over) (long over (leb end most_bytes)))
    (λ fits. simp (le-leb (k + end) most_bytes fits, le-leb end most_bytes (omega arith))))
  where
    long : most_bytes < k + end → (b : Bool) → miss ≡ longer k (cond b (hit (record { consumed = end; matched = n; columns = cs; padded = p })) miss)
    long over true = simp (lt-leb (k + end) most_bytes over)
    long over false = refl

judged_longer : (k len : ℕ) (hints : List ℕ) (h : ℕ) (p : Bool) (ts : List ℕ) → judged (k + len) hints 0 (k + h) p ts ≡ longer k (judged len hints 0 h p ts)
unfolding judged
judged_longer k len hints h p ts =
    let e : 0 + (k + h) ≡ k + (0 + h) = omega arith in
    rw (e, bodies_moved k len (0 + h) ts, sized_longer k (suited hints ts) p (bodies_from len (0 + h) ts))
    (go (eqb (length ts) (length hints) && ltb 0 (suited hints ts)))
  where
    go : (b : Bool) → cond b (longer k (sized 0 (suited hints ts) p (bodies_from len (0 + h) ts))) miss
        ≡ longer k (cond b (sized 0 (suited hints ts) p (bodies_from len (0 + h) ts)) miss)
    go true = refl
    go false = refl

-- what stands behind other bytes
part_behind : (own l : List ℕ) → PartOf (length own) l (own ++ l)
part_behind own l = record { ends = omega (arith, length-append own l); same = λ i lt. get_or-append-add own l i 0 }

module _ (own l hints : List ℕ) (h : ℕ) (read : varint_at (own ++ l) 0 ≡ Some ((length own + h), (record { at = length own; padded = false })))
    (low : 2 ≤ length own + h) (high : length own + h ≤ most_header) where
  -- THE LAW: an attempt on the made_up bytes and what stands behind them finds what the header makes, and so many bytes more
  pub made_up : h ≤ length l → attempt_at (own ++ l) hints 0 ≡ longer (length own) (given l hints 0 h)
  made_up in' =
      let k = length own in
      let long : length (own ++ l) ≡ k + length l = length-append own l in
      let fit = fits (length (own ++ l)) 0 (k + h) low high (omega arith) in
      let stop : 0 + (k + h) ≡ k + (0 + h) = omega arith in
      let a = rw (add-zero k) at (types_moved (part_behind own l) (sym long) (k + h) h 0 (0 + h) (omega arith) (omega arith)) in
      let mark = types_padded h l 0 (0 + h) in
      attempt_is (own ++ l) hints 0 (k + h) (record { at = k; padded = false }) read fit
      ∙ rw (stop, a.whole, a.kinds_are, a.marks, long, judged_longer k (length l) hints h mark (kinds (header_types l 0 h 0))) (go (is_whole (header_types l 0 h 0)))
    where
      go : (b : Bool) → cond b (longer (length own) (judged (length l) hints 0 h (types_padded h l 0 (0 + h)) (kinds (header_types l 0 h 0)))) miss
          ≡ longer (length own) (cond b (judged (length l) hints 0 h (types_padded h l 0 (0 + h)) (kinds (header_types l 0 h 0))) miss)
      go true = refl
      go false = refl

  -- and none where the header does not fit
  pub made_up_cut : length l < h → attempt_at (own ++ l) hints 0 ≡ miss
  made_up_cut out =
      (attempt_bad (own ++ l) hints 0 (length own + h) (record { at = length own; padded = false }) read
      (fits_not (length (own ++ l)) 0 (length own + h) (λ p q r. omega (arith, length-append own l)))).misses
