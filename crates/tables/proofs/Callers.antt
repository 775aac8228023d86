-- The ways out of a call over tables: a check refused it, there are too few flags, or all tables are carved; flags and stack are cleared.
-- Assumes nothing.
use Rattle.std.specs.Prelude.{Err, Ok}
use Prim.Native.Nat.{ℕ, ◌/◌, ◌≤◌, ◌<◌}
use mathlib.Core.Path.{◌≡◌, refl, ap, ◌∙◌}
use mathlib.Core.Bool.{Bool, true, false, cond}
use mathlib.Core.List.{List}
use native.Mathlib.Nat.{zero-add}
use native.Mathlib.Omega.{arith}
use borrow.Author.Tests.{le-leb, lt-leb, lt-ltb, le-ltb}
use lib.Dec.{ltb}
use lib.ListN.{length, replicate}
use lib.Seq.{take-nil}
use Rattle.hit.specs.Inner.{Space}
use Rattle.record.proofs.Numbers.{by_order}
use Rattle.sheet.proofs.Carving.{puts_all}
use Rattle.sheet.proofs.Filling.{rows_refused, rows_filled}
use Rattle.sheet.specs.Filled.{filled_by}
use Rattle.sheet.specs.Hits.{Hit, row_room, row_outcome}
use Rattle.sheet.specs.Inner.{Told, on, overflow, carved_to, Empty, Adds}
use Rattle.sheet.specs.declared.inner.Sheet.{Sheet}
use Rattle.sheet.specs.declared.refusal.Refusal.{Refusal}
use Rattle.tables.specs.Calls.{Asked, tabled_checked, tabled_hits, tabled_overflow, tabled_walking, tabled_filling, tabled_answer, tabled_number, tabled_written, tabled_rows, tabled_cols, tabled_cleared, OnTables, on_tables, TablesPromises}
use Rattle.tables.specs.Inner.{told_of, walked_as, TablesCarved}
use Rattle.tables.specs.declared.tables.Stopped.{Stopped}
use Rattle.tables.specs.declared.tables.Stopped.TheVariants.{Full as NoMore, Overflow as OutOfStack}
use Rattle.walk.proofs.Laws.{numbers_are}
use Rattle.walk.proofs.Tables.{Tables, own, found, tables_over, tables_overflow_lem}
use Rattle.walk.specs.Carve.{Carver, widest, tables_hits, tables_overflow}
use Rattle.walk.specs.Walk.{overflows}
use Rattle.walk.specs.Collect.{walked_number, walked_written}
use Rattle.walk.specs.declared.walk.Walked.TheVariants.{Done, Full, Short}
use Rattle.walk.specs.declared.walk.Walked.{Walked}

-- ---- a table that ends it all
module _ (carve : Carver Hit) (db : List ℕ) (size : ℕ) (roots counts hints : List ℕ) (depth : ℕ) (s₀ s : Sheet) (t from : ℕ)
    (w : Tables carve db size roots counts hints depth s₀ s t from) (below : t < length roots) (under : t < length counts) (s' : Sheet) where
  pub tables_stop : (e : Stopped) → Adds (found _ _ _ _ _ _ _ _ _ _ _ w below under) (overflows (own _ _ _ _ _ _ _ _ _ _ _ w below under)) s (told_of (Err e) s') s'
      → Adds (tables_hits carve db size roots counts hints depth) (tables_overflow db size roots counts hints depth) s₀ (told_of (Err e) s') s'
  tables_stop NoMore x = tables_over carve db size roots counts hints depth s₀ s t from w below under s' x
  tables_stop OutOfStack x = tables_overflow_lem carve db size roots counts hints depth s₀ s t from w below under s' x

-- ---- an empty sheet has space for rows as wide as its groups
pub empty_space : (rows cols : List ℕ) (width : ℕ) (s : Sheet) → Empty rows cols width s → Space width s
empty_space rows cols width s e =
    record {
      narrow = omega (arith, e.width_is);
      room_most = rw (e.room_is, e.rows_are, e.cols_are, e.width_is) (omega arith);
      fits = omega (arith, e.n_is);
    }

-- ---- behind the checks
walked_is : (room k : ℕ) (stopped : Bool) → walked_as room (carved_to room 0 k stopped) ≡ cond (ltb room k) (Full room) (cond stopped (Short k) (Done k))
walked_is room k stopped =
    by_order room k
    (λ lt. rw zero-add (simp (lt-leb k room lt, lt-ltb room k lt)))
    (λ le. rw zero-add (simp (le-leb k room le, le-ltb room k le) (by stopped)))
  where
    by : (b : Bool) → walked_as room (cond b (overflow k) (on k)) ≡ cond b (Short k) (Done k)
    by true = refl
    by false = refl

module _ (a : Asked) where
  pub tables_few : length a.flags < length a.db / a.size → TablesCarved a (Short 0) a.rows a.cols
  tables_few h =
      let few = lt-ltb (length a.flags) (length a.db / a.size) h in
      let none = take-nil {A = Hit} (row_room (tabled_filling a)) in
      record { answer = simp few; rows_are = simp (few, none); cols_are = simp (few, none) }

  -- carving all tables into an empty sheet
  pub tables_carved : (s s' : Sheet) (r : Told) → length a.db / a.size ≤ length a.flags → Empty a.rows a.cols (widest a.counts) s
      → Adds (tabled_hits a) (tabled_overflow a) s r s' → TablesCarved a (walked_as s'.room r) s'.rows.now s'.cols.now
  tables_carved s s' r enough e y =
      let x = rw (e.rows_are, e.cols_are, e.width_is, e.n_is) at y.carves in
      let flagged = le-ltb (length a.flags) (length a.db / a.size) enough in
      let p = puts_all (widest a.counts) s.room (tabled_hits a) a.rows a.cols s'.rows.now s'.cols.now e.room_is x.puts in
      record {
        answer = simp flagged (rw (x.answer, y.room, ← e.room_is) (walked_is s.room (length (tabled_hits a)) (tabled_overflow a)));
        rows_are = simp flagged (rw (← e.room_is) p.0);
        cols_are = simp flagged (rw (← e.room_is) p.1);
      }

  -- the lists may be said another way
  pub tables_as : (r : Walked) (rows cols rows' cols' : List ℕ) → TablesCarved a r rows cols → rows' ≡ rows → cols' ≡ cols → TablesCarved a r rows' cols'
  tables_as r rows cols rows' cols' x e f = rw (e, f) x

  -- ---- the call
  promised : (x : OnTables) → x.answer ≡ tabled_answer a → x.rows ≡ tabled_rows a → x.cols ≡ tabled_cols a → x.flags ≡ tabled_cleared a a.flags
      → x.stack ≡ tabled_cleared a a.stack → TablesPromises a x
  unfolding tabled_answer tabled_number tabled_written
  promised x e rows entries flags stack =
      let n = numbers_are (tabled_walking a) in
      record { answer = e; number = ap walked_number e ∙ n.0; written = ap walked_written e ∙ n.1; rows = rows; entries = entries; flags = flags; stack = stack }

  pub tables_refused : (r : Refusal) → tabled_checked a ≡ Err r → TablesPromises a (on_tables (Err r) a.flags a.stack a.rows a.cols)
  unfolding tabled_answer tabled_rows tabled_cols tabled_cleared
  tables_refused r e =
      let p = rows_refused (tabled_filling a) r e in
      promised (on_tables (Err r) a.flags a.stack a.rows a.cols) (rw e) p.rows p.entries (rw e) (rw e)

  pub tables_passed : (r : Walked) (rows cols : List ℕ) → tabled_checked a ≡ (Ok tt) → TablesCarved a r rows cols
      → TablesPromises a (on_tables (Ok r) (replicate (length a.flags) 0) (replicate (length a.stack) 0) rows cols)
  unfolding tabled_answer tabled_rows tabled_cols tabled_cleared
  tables_passed r rows cols e x =
      let f = tabled_filling a in
      let p = rows_filled f (row_outcome (Ok (filled_by (length f.hits) (row_room f))) rows cols) e (record { answer = refl; rows_are = x.rows_are; cols_are = x.cols_are }) in
      promised (on_tables (Ok r) (replicate (length a.flags) 0) (replicate (length a.stack) 0) rows cols) (rw (e, x.answer)) p.rows p.entries (rw e) (rw e)
