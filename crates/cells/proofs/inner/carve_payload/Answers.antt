-- `cells::inner::carve_payload` meets its contract: what is rebuilt comes behind the cells, whose rows stand in the list; without guesses these are all.
-- Assumes nothing.
use Rattle.std.specs.Prelude.{length}
use Rattle.cells.specs.Cells.{cells_of}
use Rattle.cells.proofs.Skipping.{cells_stand}
use Rattle.cells.proofs.Starting.{payload_full, payload_cells, payload_both}
use Rattle.hit.proofs.Laws.{ready_then}
use Rattle.cells.proofs.inner.carve_payload.Goals as goal

pub returns-in_err-carve_cells : goal.returns-in_err-carve_cells
returns-in_err-carve_cells c = rw c.from_residual.ensures (payload_full _ _ _ _ _ _ _ c.in_err-carve_cells.ensures)

pub returns-in-NoGuesses : goal.returns-in-NoGuesses
returns-in-NoGuesses c = payload_cells _ _ _ _ _ _ _ _ c.in-NoGuesses.is c.in_ok-carve_cells.ensures

pub carve_rebuilt-requires : goal.carve_rebuilt-requires
carve_rebuilt-requires c =
    let x = c.in_ok-carve_cells.ensures in
    let cells = cells_of c.args.payload.now c.args.hints.now in
    record {
      hints_len_bound = c.requires.hints_len_bound;
      ready = ready_then _ _ _ _ _ _ c.requires.ready x;
      standing = cells_stand c.args.spot (length c.args.hints.now) c.args.o cells _ _ c.requires.ready.space.room_most x;
    }

pub returns : goal.returns
returns c = payload_both _ _ _ _ _ _ _ _ _ c.in_ok-carve_cells.ensures c.carve_rebuilt.ensures
