-- Carving leaf by leaf and table by table, whatever the carver.
-- Assumes nothing.
use Prim.Native.Nat.{ℕ, suc, ◌+◌, ◌/◌, ◌≤◌, ◌<◌}
use mathlib.Core.Path.{◌≡◌, refl, sym, ◌∙◌}
use mathlib.Core.Bool.{true, false, cond}
use mathlib.Core.List.{List, [], ◌∷◌, ◌++◌, append-nil, append_assoc}
use native.Mathlib.Numerals.{add-one}
use native.Mathlib.Omega.{arith}
use borrow.Author.Tests.{le-leb}
use lib.ListN.{length, get_or, take, drop, replicate, drop_of_length-le}
use lib.Seq.{drop-cons, drop-drop}
use Rattle.walk.specs.Carve.{sum_of, Table, tables_of, Carver, hits_from, overflow_from, tables_hits, tables_overflow}
use Rattle.sheet.specs.Hits.{Hit}
use Rattle.walk.specs.Inner.{tops, rest, LeafIs}
use Rattle.sheet.specs.Inner.{on, over, overflow, Adds}
use Rattle.sheet.specs.declared.inner.Sheet.{Sheet}
use Rattle.walk.specs.Walk.{Walk, through, overflowed, walk, onward, overflow as unpushed, push_all, hits_of, overflows}
use Rattle.walk.proofs.Along.{Along, along_start, along_leaf, along_more, along_done, along_overflow, walk_none}
use Rattle.sheet.proofs.Carving.{told_on, told_overflow}
use Rattle.sheet.proofs.Sheets.{adds_none, adds_more, adds_stop, adds_as}
use Rattle.walk.proofs.Summing.{sum_at}

-- ---- rows behind which the stack overflowed
adds_stopped : (hs : List Hit) (s e : Sheet) → Adds hs false s (on e.n) e → Adds hs true s (overflow e.n) e
adds_stopped hs s e x =
    let t = told_on s.room s.n (length hs) e.n false x.carves.answer in
    record {
      rows_kept = x.rows_kept;
      cols_kept = x.cols_kept;
      width = x.width;
      room = x.room;
      n = x.n;
      carves = record { answer = rw t.1 (simp (le-leb (s.n + length hs) s.room t.0)); puts = x.carves.puts };
    }

-- and before which it did
adds_unpushed : (s : Sheet) → s.n ≤ s.room → Adds [] true s (overflow s.n) s
adds_unpushed s h = adds_stopped [] s s (adds_none s h)

-- ---- the leaves of one table: `done` was carved behind the rows of s₀
pub record Leaves (carve : ℕ → List Hit) (whole : Walk) (db : List ℕ) (size depth count : ℕ) (s₀ : Sheet) (flags stack : List ℕ) (top : ℕ) (s : Sheet) : Type 0 where
  pub done : List Hit
  pub along : Along carve whole db size depth count flags stack top done
  pub carved : Adds done false s₀ (on s.n) s

pub leaves_start : (carve : ℕ → List Hit) (db : List ℕ) (size depth root count : ℕ) (flags stack : List ℕ) (top : ℕ) (s : Sheet)
    → onward (tops stack top) ≡ push_all depth (root ∷ []) [] → flags ≡ replicate count 0 → length stack ≡ depth → top ≤ depth → length db / size ≤ count → s.n ≤ s.room
    → Leaves carve (walk db size depth root) db size depth count s flags stack top s
leaves_start carve db size depth root count flags stack top s e clear long fits flagged h =
    record { done = []; along = along_start carve db size depth root count flags stack top e clear long fits flagged; carved = adds_none s h }

-- the root found no room
pub leaves_none : (carve : ℕ → List Hit) (db : List ℕ) (size depth root : ℕ) (s : Sheet) → unpushed ≡ push_all depth (root ∷ []) [] → s.n ≤ s.room
    → Adds (hits_of carve (walk db size depth root)) (overflows (walk db size depth root)) s (overflow s.n) s
leaves_none carve db size depth root s e h = rw (walk_none db size depth root e) (adds_unpushed s h)

module _ (carve : ℕ → List Hit) (whole : Walk) (db : List ℕ) (size depth count : ℕ) (s₀ : Sheet) (flags stack : List ℕ) (top : ℕ) (s : Sheet)
    (w : Leaves carve whole db size depth count s₀ flags stack top s) where
  module _ (most : ℕ) (flags' stack' : List ℕ) (p t : ℕ) (x : LeafIs db size (rest w.along.fuel db size flags stack top) most flags' stack' p t) (s' : Sheet) where
    pub leaves_on : Adds (carve p) false s (on s'.n) s' → length stack' ≡ length stack → length flags' ≡ length flags
        → Leaves carve whole db size depth count s₀ flags' stack' t s'
    leaves_on y ls lf =
        record {
          done = w.done ++ carve p;
          along = along_leaf carve whole db size depth count flags stack top w.done w.along most flags' stack' p t x ls lf;
          carved = adds_more w.done (carve p) s₀ s s' false (on s'.n) w.carved y;
        }

    pub leaves_over : Adds (carve p) false s over s' → Adds (hits_of carve whole) (overflows whole) s₀ over s'
    leaves_over y =
        let more = along_more carve whole db size depth count flags stack top w.done w.along most flags' stack' p t x in
        let c = adds_more w.done (carve p) s₀ s s' false over w.carved y in
        rw more.1 at (adds_stop (w.done ++ carve p) more.0 s₀ s' false (overflows whole) c)

  pub leaves_done : rest w.along.fuel db size flags stack top ≡ through → Adds (hits_of carve whole) (overflows whole) s₀ (on s.n) s
  leaves_done e =
      let d = along_done carve whole db size depth count flags stack top w.done w.along e in
      adds_as w.done (hits_of carve whole) false (overflows whole) s₀ (on s.n) s d.0 (sym d.1) w.carved

  pub leaves_overflow : rest w.along.fuel db size flags stack top ≡ overflowed → Adds (hits_of carve whole) (overflows whole) s₀ (overflow s.n) s
  leaves_overflow e =
      let d = along_overflow carve whole db size depth count flags stack top w.done w.along e in
      adds_as w.done (hits_of carve whole) true (overflows whole) s₀ (overflow s.n) s d.0 (sym d.1) (adds_stopped w.done s₀ s w.carved)

-- ---- the tables
-- t tables are carved behind the rows of s₀, and their hints end at `from`
pub record Tables (carve : Carver Hit) (db : List ℕ) (size : ℕ) (roots counts hints : List ℕ) (depth : ℕ) (s₀ s : Sheet) (t from : ℕ) : Type 0 where
  pub done : List Hit
  pub carved : Adds done false s₀ (on s.n) s
  pub hits : done ++ hits_from (λ root. walk db size depth root) carve t (tables_of (drop t roots) (drop t counts) (drop from hints)) ≡ tables_hits carve db size roots counts hints depth
  pub ends : overflow_from (λ root. walk db size depth root) (tables_of (drop t roots) (drop t counts) (drop from hints)) ≡ tables_overflow db size roots counts hints depth
  pub cut : from + sum_of (drop t counts) ≡ sum_of counts

pub tables_start : (carve : Carver Hit) (db : List ℕ) (size : ℕ) (roots counts hints : List ℕ) (depth : ℕ) (s : Sheet) → s.n ≤ s.room
    → Tables carve db size roots counts hints depth s s 0 0
unfolding tables_hits tables_overflow
tables_start carve db size roots counts hints depth s h =
    record { done = []; carved = adds_none s h; hits = refl; ends = refl; cut = omega arith }

module _ (carve : Carver Hit) (db : List ℕ) (size : ℕ) (roots counts hints : List ℕ) (depth : ℕ) (s₀ s : Sheet) (t from : ℕ)
    (w : Tables carve db size roots counts hints depth s₀ s t from) where
  abbrev walk_of : ℕ → Walk
  walk_of root = walk db size depth root

  module _ (below : t < length roots) (under : t < length counts) where
    -- the table's walk, its hits, and those of the tables behind it
    abbrev pub own : Walk
    own = walk db size depth (get_or roots t 0)

    abbrev pub found : List Hit
    found = hits_of (carve t (take (get_or counts t 0) (drop from hints))) own

    abbrev later : List Table
    later = tables_of (drop (t + 1) roots) (drop (t + 1) counts) (drop (from + get_or counts t 0) hints)

    tables_are : tables_of (drop t roots) (drop t counts) (drop from hints) ≡ record { root = get_or roots t 0; hints = take (get_or counts t 0) (drop from hints) } ∷ later
    tables_are = rw (drop-cons roots t 0 below, drop-cons counts t 0 under, drop-drop (get_or counts t 0) from hints, add-one t)

    hits_are : (w.done ++ found) ++ cond (overflows own) [] (hits_from walk_of carve (suc t) later) ≡ tables_hits carve db size roots counts hints depth
    hits_are = append_assoc w.done found (cond (overflows own) [] (hits_from walk_of carve (suc t) later)) ∙ rw tables_are at w.hits

    ends_are : cond (overflows own) true (overflow_from walk_of later) ≡ tables_overflow db size roots counts hints depth
    ends_are = rw tables_are at w.ends

    -- its hints are there
    pub tables_inside : from + get_or counts t 0 ≤ sum_of counts
    tables_inside = omega (arith, w.cut, sum_at counts t under)

    module _ (s' : Sheet) where
      pub tables_on : Adds found (overflows own) s (on s'.n) s' → Tables carve db size roots counts hints depth s₀ s' (t + 1) (from + get_or counts t 0)
      tables_on x =
          let told = told_on s.room s.n (length found) s'.n (overflows own) x.carves.answer in
          record {
            done = w.done ++ found;
            carved = adds_more w.done found s₀ s s' false (on s'.n) w.carved (rw told.2 at x);
            hits = rw (add-one t) (rw (told.2, add-one t) at hits_are);
            ends = rw told.2 at ends_are;
            cut = omega (arith, w.cut, sum_at counts t under);
          }

      pub tables_over : Adds found (overflows own) s over s'
          → Adds (tables_hits carve db size roots counts hints depth) (tables_overflow db size roots counts hints depth) s₀ over s'
      tables_over x =
          let c = adds_more w.done found s₀ s s' (overflows own) over w.carved x in
          let tail = cond (overflows own) [] (hits_from walk_of carve (suc t) later) in
          rw hits_are at (adds_stop (w.done ++ found) tail s₀ s' (overflows own) (tables_overflow db size roots counts hints depth) c)

      pub tables_overflow_lem : Adds found (overflows own) s (overflow s'.n) s'
          → Adds (tables_hits carve db size roots counts hints depth) (tables_overflow db size roots counts hints depth) s₀ (overflow s'.n) s'
      tables_overflow_lem x =
          let told = told_overflow s.room s.n (length found) s'.n (overflows own) x.carves.answer in
          let c = adds_more w.done found s₀ s s' true (overflow s'.n) w.carved (rw told.2 at x) in
          let hits : w.done ++ found ≡ tables_hits carve db size roots counts hints depth = sym (append-nil (w.done ++ found)) ∙ rw told.2 at hits_are in
          let ends : true ≡ tables_overflow db size roots counts hints depth = rw told.2 at ends_are in
          adds_as (w.done ++ found) (tables_hits carve db size roots counts hints depth) true (tables_overflow db size roots counts hints depth) s₀ (overflow s'.n) s' hits ends c

  pub tables_done : length roots ≤ t → Adds (tables_hits carve db size roots counts hints depth) (tables_overflow db size roots counts hints depth) s₀ (on s.n) s
  tables_done h =
      let none : drop t roots ≡ [] = drop_of_length-le roots h in
      let hits : w.done ≡ tables_hits carve db size roots counts hints depth = sym (append-nil w.done) ∙ rw none at w.hits in
      let ends : false ≡ tables_overflow db size roots counts hints depth = rw none at w.ends in
      adds_as w.done (tables_hits carve db size roots counts hints depth) false (tables_overflow db size roots counts hints depth) s₀ (on s.n) s hits ends w.carved
