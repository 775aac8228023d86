-- `modes::inner::put_find` meets its contract: the columns that are lost, those that were read, what pads the group, and the row.
-- Assumes nothing.
use Prim.Native.Nat.{◌*◌}
use mathlib.Core.Path.{refl, ◌∙◌}
use native.Mathlib.Omega.{arith}
use lib.ListN.{length}
use Rattle.modes.proofs.Bodies.{columns_count, end_inside}
use Rattle.modes.proofs.Writing.{group_is}
use Rattle.modes.specs.Found.{columns_from}
use Rattle.modes.specs.Inner.{kinds_at}
use Rattle.sheet.specs.Limits.{words_per_entry}
use Rattle.modes.proofs.inner.put_find.Goals as goal

pub overflow_mul-group-2 : goal.overflow_mul-group-2
overflow_mul-group-2 c = omega (arith, c.requires.group)

pub put_lost-requires-clause-lost_in_bounds : goal.put_lost-requires-clause-lost_in_bounds
put_lost-requires-clause-lost_in_bounds c = omega (arith, c.requires.group, c.requires.fits.few)

pub overflow_add-first : goal.overflow_add-first
overflow_add-first c = omega (arith, c.requires.group, c.requires.fits.few)

pub put_bodies-end-requires-clause-count_in_bounds : goal.put_bodies-end-requires-clause-count_in_bounds
put_bodies-end-requires-clause-count_in_bounds c = omega (arith, c.put_lost.auto.cols, c.requires.group, c.requires.fits.few)

pub overflow_add-group : goal.overflow_add-group
overflow_add-group c = omega (arith, c.requires.group, c.requires.fits.few)

pub put_unused-requires : goal.put_unused-requires
put_unused-requires c = omega (arith, c.put_lost.auto.cols, c.put_bodies-end.auto.cols, c.requires.group, c.requires.fits.few)

pub overflow_sub-row : goal.overflow_sub-row
overflow_sub-row c =
    let x = c.args.find in
    omega (arith, c.put_bodies-end.ensures.end, (end_inside (length c.args.bytes.now) x.start (kinds_at x.count c.args.bytes.now x.from) c.requires.fits.inside).0, c.requires.fits.order)

pub put_row-requires : goal.put_row-requires
put_row-requires c = c.requires.row

pub returns-clause-row : goal.returns-clause-row
returns-clause-row c =
    let s = c.args.sheet.now in
    let x = c.args.find in
    let len = length c.args.bytes.now in
    let ts = kinds_at x.count c.args.bytes.now x.from in
    record {
      rows_kept = refl;
      cols_kept = refl;
      width = refl;
      room = refl;
      n = refl;
      rows = c.put_row.ensures ∙ rw c.put_bodies-end.ensures.end;
      cols = c.put_unused.ensures
          ∙ rw (c.put_bodies-end.ensures.cols, c.put_lost.ensures)
          (group_is s.cols.now (s.n * (words_per_entry * s.width)) s.width x.style.lost x.count (columns_from len x.start ts) (columns_count len x.start ts ∙ c.requires.fits.counts));
    }
