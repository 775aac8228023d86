-- Values read back, of the calls over tables: the entries lie in the database, and read over it as the values of the tables' rows, in groups as wide as
-- the widest table. Said once, whatever the way of carving, and by that of each public call.
-- Assumes nothing.
use Rattle.std.specs.Prelude.{Ok}
use Prim.Native.Nat.{ℕ, suc, ◌*◌, ◌/◌, ◌≤◌, ◌<◌, min}
use mathlib.Core.Path.{◌≡◌, refl, sym, ap, ◌∙◌}
use mathlib.Core.Bool.{Bool, true, false, cond}
use mathlib.Core.List.{List, [], ◌∷◌}
use native.Mathlib.Nat.{le_trans, min-eq_right}
use native.Mathlib.Omega.{arith}
use contract.Lifetimes.{Lfts}
use denote.Triple.Clauses.{AtExit}
use borrow.Author.Tests.{ltb-false}
use borrow.Fn.Kinds.{Dens, res_t, ended_of}
use lib.Dec.{ltb}
use lib.ListN.{length}
use Rattle.carving.proofs.Callers.{narrow_on}
use Rattle.carving.proofs.ReadBack.{leaf_reads}
use Rattle.carving.specs.Calls.{width_by, leaf_hits}
use Rattle.carving.specs.Values.{leaf_values}
use Rattle.carving.specs.declared.inner.Carving.TheVariants.{Freeblocks, Gaps}
use Rattle.carving.specs.declared.inner.Carving.{Carving}
use Rattle.page.specs.Page.{whole_pages}
use Rattle.record.specs.declared.record.Value.{Value}
use Rattle.sheet.proofs.Laws.{none_holds, filled_numbers}
use Rattle.sheet.proofs.ReadBack.{ReadBack, AllFit, all_fit, fit_append, rows_read}
use Rattle.sheet.specs.Hits.{Hit, RowFilling, row_room, rows_answer, rows_number, rows_written, rows_left, entries_left, row_outcome, FillsRows}
use Rattle.sheet.specs.Refusal.{after_or0}
use Rattle.tables.specs.Calls.{Asked, asked, table_checks_by, tabled_checked, tabled_carver, tabled_hits, tabled_walking, tabled_filling, tabled_cols, tabled_written, OnTables, TablesPromises}
use Rattle.tables.specs.Values.{values_from, tables_values, carved_values}
use Rattle.tables.proofs.freeblocks.recover_freeblocks.Kinds as freeblocks-kinds
use Rattle.tables.proofs.freeblocks.recover_freeblocks.Reads as recover-freeblocks
use Rattle.tables.proofs.gaps.scan_page_gaps.Kinds as gaps-kinds
use Rattle.tables.proofs.gaps.scan_page_gaps.Reads as scan-page-gaps
use Rattle.walk.proofs.Leaves.{AllThere, walk_there, AllNarrow, tables_narrow, hits_in_turn}
use Rattle.walk.proofs.Laws.{tables_fit}
use Rattle.walk.specs.Carve.{Table, tables_of, widest, table_checks, hits_from}
use Rattle.walk.specs.Collect.{Walking, walking_things, walked_written}
use Rattle.walk.specs.Walk.{Walk, through, overflowed, leaf, walk, hits_of, overflows}

module _ (how : Carving) (db : List ℕ) (size width : ℕ) (sized : 0 < size) (able : width ≤ width_by how) where
  -- the rows of one table, along its walk
  walk_fit : (w : Walk) → AllThere (length db / size) w → (table : ℕ) (hints : List ℕ) → 1 ≤ length hints → length hints ≤ width
      → AllFit db width (hits_of (leaf_hits how db size table hints) w) (hits_of (leaf_values how db size hints) w)
  walk_fit through there table hints some narrow = tt
  walk_fit overflowed there table hints some narrow = tt
  walk_fit (leaf p w) there table hints some narrow =
      fit_append db width (leaf_hits how db size table hints p) (hits_of (leaf_hits how db size table hints) w) (leaf_values how db size hints p) (hits_of (leaf_values how db size hints) w)
      (all_fit db (length hints) width narrow (leaf_hits how db size table hints p) (leaf_values how db size hints p)
      (leaf_reads how db size table p hints sized there.0 there.1 some (le_trans narrow able)))
      (walk_fit w there.2 table hints some narrow)

  -- the rows of tables, one after the other
  module _ (walk_of : ℕ → Walk) (there : (root : ℕ) → AllThere (length db / size) (walk_of root)) where
    turns_fit : (bs : List Table) → AllNarrow width bs → (t : ℕ) → AllFit db width (hits_from walk_of (leaf_hits how db size) t bs) (values_from how db size walk_of bs)
    turns_fit [] narrow t = tt
    turns_fit (b ∷ bs) narrow t =
        fit_append db width (hits_of (leaf_hits how db size t b.hints) (walk_of b.root))
        (cond (overflows (walk_of b.root)) [] (hits_from walk_of (leaf_hits how db size) (suc t) bs))
        (hits_of (leaf_values how db size b.hints) (walk_of b.root))
        (cond (overflows (walk_of b.root)) [] (values_from how db size walk_of bs))
        (walk_fit (walk_of b.root) (there b.root) t b.hints narrow.0 narrow.1)
        (later (overflows (walk_of b.root)) (turns_fit bs narrow.2 (suc t)))
      where
        later : (stopped : Bool) → AllFit db width (hits_from walk_of (leaf_hits how db size) (suc t) bs) (values_from how db size walk_of bs)
            → AllFit db width (cond stopped [] (hits_from walk_of (leaf_hits how db size) (suc t) bs)) (cond stopped [] (values_from how db size walk_of bs))
        later true r = tt
        later false r = r

-- THE LAW: the rows of tables that have passed the checks, over the database
pub tables_read : (a : Asked) → tabled_checked a ≡ (Ok tt)
    → AllFit a.db (widest a.counts) (tabled_hits a) (tables_values a.how a.db a.size a.roots a.counts a.hints (length a.stack))
unfolding tables_values
tables_read a e =
    let n = none_holds (table_checks_by a.how (length a.db) a.size a.roots a.counts a.hints) e in
    let able = ltb-false _ _ n.0 in
    let others = table_checks (length a.db) a.size a.roots a.counts a.hints in
    let f = tables_fit (length a.db) a.size a.roots a.counts a.hints (sym (narrow_on a.how (widest a.counts) others n.0) ∙ e) in
    rw (hits_in_turn (tabled_carver a) a.db a.size a.roots a.counts a.hints (length a.stack))
    (turns_fit a.how a.db a.size (widest a.counts) (omega (arith, f.low)) able (λ root. walk a.db a.size (length a.stack) root)
    (λ root. walk_there a.db a.size (length a.stack) root) (tables_of a.roots a.counts a.hints)
    (tables_narrow a.roots a.counts a.hints (widest a.counts) f.fit (omega (arith, f.sums)) (omega arith)) 0)

-- and of those that there are to write
fit_flagged : (s : List ℕ) (width : ℕ) (w : Walking) (hs : List Hit) (vss : List (List Value)) → AllFit s width hs vss
    → AllFit s width (walking_things w hs) (walking_things w vss)
fit_flagged s width w hs vss r = go (ltb w.flags w.pages)
  where
    go : (few : Bool) → AllFit s width (cond few [] hs) (cond few [] vss)
    go true = tt
    go false = r

-- as many rows are written as of any call that fills two lists with them
written_rows : (a : Asked) → tabled_written a ≡ rows_written (tabled_filling a)
unfolding tabled_written rows_written
written_rows a = ap (λ (n : ℕ). after_or0 (tabled_checked a) n) (go (ltb (length a.flags) (whole_pages (length a.db) a.size)))
  where
    go : (few : Bool) → cond few 0 (min (row_room (tabled_filling a)) (length (tabled_hits a))) ≡ min (row_room (tabled_filling a)) (length (cond few [] (tabled_hits a)))
    go true = sym (min-eq_right (omega arith))
    go false = refl

rows_promised : (a : RowFilling) → FillsRows a (row_outcome (rows_answer a) (rows_left a) (entries_left a))
unfolding rows_answer rows_number rows_written
rows_promised a =
    let n = filled_numbers a.checked (length a.hits) (row_room a) in
    record { answer = refl; number = n.0; written = n.1; rows = refl; entries = refl }

-- THE LAW: what the promises leave reads back
pub tables_read_back : (a : Asked) (x : OnTables) → TablesPromises a x
    → ReadBack a.db (walked_written x.answer * widest a.counts) x.cols (carved_values a)
unfolding tabled_cols carved_values
tables_read_back a x p =
    let f = tabled_filling a in
    let w = tabled_walking a in
    let values = tables_values a.how a.db a.size a.roots a.counts a.hints (length a.stack) in
    let promised = rows_promised f in
    rw (p.written, p.entries, written_rows a, ← promised.written)
    (rows_read a.db f (walking_things w values) (row_outcome (rows_answer f) (rows_left f) (entries_left f)) promised
    (λ e. fit_flagged a.db (widest a.counts) w (tabled_hits a) values (tables_read a e)))

-- ---- the public calls
pub recover_freeblocks_reads_back : (k : Lfts 8) (a : Dens k freeblocks-kinds.ps) (x : (res_t freeblocks-kinds.r k).Denot)
    (s : AtExit (ended_of 8 freeblocks-kinds.ps freeblocks-kinds.r) k) → recover-freeblocks.Post k a x s
    → ReadBack a.0.now (walked_written x * widest a.1.1.1.0.now) s.1.1.1.1.1.1.1.1.0.now
    (carved_values
    (asked Freeblocks a.0.now a.1.0 a.1.1.0.now a.1.1.1.0.now a.1.1.1.1.0.now a.1.1.1.1.1.0.now
    a.1.1.1.1.1.1.0.now a.1.1.1.1.1.1.1.0.now a.1.1.1.1.1.1.1.1.0.now))
recover_freeblocks_reads_back k a x s p = tables_read_back _ _ p

pub scan_page_gaps_reads_back : (k : Lfts 8) (a : Dens k gaps-kinds.ps) (x : (res_t gaps-kinds.r k).Denot) (s : AtExit (ended_of 8 gaps-kinds.ps gaps-kinds.r) k)
    → scan-page-gaps.Post k a x s
    → ReadBack a.1.0.now (walked_written x * widest a.1.1.1.1.0.now) s.1.1.1.1.1.1.1.1.1.0.now
    (carved_values
    (asked (Gaps a.0) a.1.0.now a.1.1.0 a.1.1.1.0.now a.1.1.1.1.0.now a.1.1.1.1.1.0.now a.1.1.1.1.1.1.0.now
    a.1.1.1.1.1.1.1.0.now a.1.1.1.1.1.1.1.1.0.now a.1.1.1.1.1.1.1.1.1.0.now))
scan_page_gaps_reads_back k a x s p = tables_read_back _ _ p
