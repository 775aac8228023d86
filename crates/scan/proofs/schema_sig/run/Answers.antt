-- `scan::schema_sig::run` meets its contract: what the loop has found, with what is still to come, comes to the whole run (`On`).
-- Assumes nothing.
use Rattle.std.specs.Prelude.{refl}
use Prim.Native.Nat.{◌+◌, ◌-◌, ◌*◌, ◌<◌, ◌≤◌}
use mathlib.Core.Path.{◌≡◌, ◌∙◌}
use native.Mathlib.Omega.{arith}
use lib.ListN.{length}
use borrow.Author.Rules.{rules}
use Rattle.attempt.proofs.Laws.{columns_at-length, hit_takes}
use Rattle.attempt.specs.Attempt.{kinds}
use Rattle.attempt.specs.Inner.{find_types}
use Rattle.attempt.specs.Places.{most_places}
use Rattle.filter.proofs.Laws.{no_run}
use Rattle.filter.specs.Inner.{RowIs, ThroughIs}
use Rattle.record.proofs.Numbers.{by_order}
use Rattle.scan.proofs.Running.{On, on_start, on_long, on_passed, on_through, on_found, on_end, on_full, room_all, written_long}
use Rattle.sheet.proofs.Laws.{room_rows, room_cols}
use Rattle.sheet.specs.Columns.{room_of}
use Rattle.sheet.specs.Limits.{largest_region}
use Rattle.scan.proofs.schema_sig.run.Goals as goal
use Rattle.scan.proofs.schema_sig.run.Goals.{In-Some, At-loop-row}

-- the room is that of the lists
room : (c : At-loop-row) → c.loop-row.sheet.room ≡ room_of (length c.args.sheet.now.rows.now) (length c.args.sheet.now.cols.now) (length c.args.hints.now)
room c = c.loop-row.invariant.5.2 ∙ c.requires.empty.room_is

-- a row comes
found : (c : In-Some) →
    RowIs c.args.bytes.now c.args.hints.now c.loop-row.o c.last_of-last.result c.in-Some.row.at c.in-Some.row.find c.next_row-next.result.read c.in-Some.row.run
found c = rw c.in-Some.is at c.next_row-next.ensures

-- it lies in the region, takes at least two bytes, and few header bytes were read
taken : (c : In-Some) →
    (c.in-Some.row.at < length c.args.bytes.now - 2) × (c.loop-row.o ≤ c.in-Some.row.at) × (2 ≤ c.in-Some.row.find.consumed) × (c.in-Some.row.at + c.in-Some.row.find.consumed ≤ length c.args.bytes.now)
    × (length c.args.bytes.now ≤ largest_region) × (c.in-Some.row.find.read ≤ most_places) × (c.loop-row.read + c.next_row-next.result.read ≤ most_places * c.in-Some.row.at)
taken c =
    let f = found c in
    let h = f.found in (
      omega (arith, f.below, c.last_of-last.ensures),
      omega (arith, f.misses.to_is),
      (hit_takes _ _ _ _ h.hits).0,
      h.inside,
      c.requires.fit.small,
      h.few,
      omega (arith, c.loop-row.invariant.1, f.misses.to_is, f.misses.few),
    )

-- the run up to it
there : (c : In-Some) →
    On c.args.bytes.now c.args.hints.now c.args.base c.args.start c.loop-row.sheet.room c.args.sheet.now.rows.now c.args.sheet.now.cols.now c.loop-row.sheet.rows.now c.loop-row.sheet.cols.now c.in-Some.row.at c.loop-row.sheet.n
    (c.loop-row.read + c.next_row-next.result.read)
there c = on_passed _ _ _ _ _ _ _ _ _ _ _ _ _ _ c.last_of-last.ensures c.loop-row.invariant.3 _ (omega (arith, (found c).below)) (found c).misses

pub loop-row-init : goal.loop-row-init
loop-row-init c =
    let z = c.requires.empty.n_is in (
      omega arith,
      search rules,
      search rules,
      rw z (on_start _ _ _ _ _ _ _),
      no_run _,
      (record { rows_kept = refl; cols_kept = refl }, refl, refl),
    )

pub next_row-next-requires : goal.next_row-next-requires
next_row-next-requires c = record { last_in_bounds = (omega (arith, c.last_of-last.ensures), c.requires.fit.small, c.requires.fit.few); high = c.loop-row.invariant.4 }

pub returns-in_default-clause-ran : goal.returns-in_default-clause-ran
returns-in_default-clause-ran c =
    let t = rw c.in_default.is at c.next_row-next.ensures in
    let r = room_all _ _ _ _ (rw (c.loop-row.invariant.5.2 ∙ c.requires.empty.room_is) at c.loop-row.invariant.0) in
    let x = on_through _ _ _ _ _ _ _ _ _ _ _ _ _ _ c.last_of-last.ensures c.loop-row.invariant.3 t in
    rw c.loop-row.invariant.5.2 at (on_end _ _ _ _ _ _ _ _ _ _ _ _ r.0 r.1 x.1 x.2)

pub returns-then-sheet-clause-ran : goal.returns-then-sheet-clause-ran
returns-then-sheet-clause-ran c =
    let p = goal.at.returns-then-sheet-clause-ran c in
    let r = room_all _ _ _ _ (rw (room p.At-loop-row) at c.loop-row.invariant.0) in
    rw c.loop-row.invariant.5.2 at (on_full _ _ _ _ _ _ _ _ _ _ _ _ r.0 r.1 _ (taken p.In-Some).0 (found p.In-Some).found.hits c.if-sheet.true (there p.In-Some))

pub put_found-requires-clause-room_for : goal.put_found-requires-clause-room_for
put_found-requires-clause-room_for c =
    let p = goal.at.put_found-requires-clause-room_for c in
    let long = on_long _ _ _ _ _ _ _ _ _ _ _ _ c.loop-row.invariant.3 in
    let n : c.loop-row.sheet.n < _ = c.if-sheet.false in
    let w = c.loop-row.invariant.5.1 ∙ c.requires.empty.width_is in
    record {
      row = rw long.0 (room_rows _ _ _ _ (rw (room p.At-loop-row) at n));
      group = rw (long.1, w) (room_cols _ _ _ _ (rw (room p.At-loop-row) at n));
    }

pub loop-row-preserved : goal.loop-row-preserved
loop-row-preserved c =
    let p = goal.at.loop-row-preserved c in
    let f = found p.In-Some in
    let h = f.found in
    let t = taken p.In-Some in
    let w = c.loop-row.invariant.5.1 ∙ c.requires.empty.width_is in
    let e = c.put_found.ensures in
    let l = written_long _ _ _ _ _ e in (
      omega (arith, c.if-sheet.false, e.n_is, e.room_is),
      omega (arith, t.2, t.5, t.6),
      omega (arith, t.0, t.5, t.6),
      rw (e.room_is, e.n_is)
          (on_found _ _ _ _ _ _ _ _ _ _ _ _ _ _ _ _ t.0 h.hits c.if-sheet.false (omega (arith, t.2)) h.counts
          (columns_at-length (c.in-Some.row.at + c.in-Some.row.find.head) (kinds (find_types c.args.bytes.now c.in-Some.row.at c.in-Some.row.find)) ∙ h.columns)
          (rw w at e.rows_are) (rw w at e.cols_are) l.0 l.1 (there p.In-Some)),
      f.run_is,
      (
        record { rows_kept = e.lists.rows_kept ∙ c.loop-row.invariant.5.0.rows_kept; cols_kept = e.lists.cols_kept ∙ c.loop-row.invariant.5.0.cols_kept },
        e.width_is ∙ c.loop-row.invariant.5.1,
        e.room_is ∙ c.loop-row.invariant.5.2,
      ),
    )
