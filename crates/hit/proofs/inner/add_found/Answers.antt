-- `hit::inner::add_found` meets its contract: there is no room for one row, or it is written and is the one that was found (`found_written`).
-- Assumes nothing.
use native.Mathlib.Omega.{arith}
use Rattle.hit.proofs.Laws.{space_fits, found_written}
use Rattle.sheet.proofs.Sheets.{adds_over}
use Rattle.hit.proofs.inner.add_found.Goals as goal

pub returns-then-sheet : goal.returns-then-sheet
returns-then-sheet c = adds_over c.args.sheet.now _ c.requires.ready.space.fits c.if-sheet.true

pub put_hit-requires : goal.put_hit-requires
put_hit-requires c =
    record { laid = c.requires.laid; bytes_bound = omega (arith, c.requires.ready.inside); fitting = space_fits _ _ c.requires.ready.space c.if-sheet.false }

pub returns : goal.returns
returns c =
    let x = c.args in
    found_written x.bytes.now x.o x.find x.part x.origin x.columns x.spot x.sheet.now _ c.requires.laid c.requires.ready.space.narrow c.if-sheet.false c.put_hit.ensures
