-- `modes::inner::add_find` meets its contract: there is no room for a row, or one is written.
-- Assumes nothing.
use Rattle.modes.proofs.Writing.{few_columns, row_fits, group_fits}
use Rattle.sheet.proofs.Sheets.{adds_over, adds_one}
use Rattle.modes.proofs.inner.add_find.Goals as goal

pub returns-then-sheet-clause-row : goal.returns-then-sheet-clause-row
returns-then-sheet-clause-row c = adds_over c.args.sheet.now _ c.requires.ready.fits c.if-sheet.true

pub put_find-requires : goal.put_find-requires
put_find-requires c =
    let r = c.requires.ready in
    record {
      small = r.small;
      near = r.near;
      fits = c.requires.fits;
      row = row_fits _ _ _ r c.if-sheet.false;
      group = group_fits _ _ _ r c.if-sheet.false;
    }

pub returns-clause-row : goal.returns-clause-row
returns-clause-row c =
    let x = c.args in adds_one x.sheet.now c.put_find.new.sheet _ c.if-sheet.false (few_columns x.bytes.now x.base x.sheet.now.width x.find c.requires.fits) c.put_find.ensures.row
