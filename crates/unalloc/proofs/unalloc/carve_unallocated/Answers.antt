-- `unalloc::unalloc::carve_unallocated` meets its contract: a check refuses, or the region is carved.
-- Assumes nothing.
use Rattle.std.proofs.lemmas.Result.{err_from_is_err_and}
use Rattle.std.specs.Prelude.{Err}
use mathlib.Core.Path.{◌≡◌, refl, sym, ◌∙◌}
use borrow.Author.Rules.{rules}
use Rattle.modes.proofs.Writing.{ready, carved}
use Rattle.sheet.proofs.Filling.{rows_refused}
use Rattle.unalloc.proofs.unalloc.carve_unallocated.Goals as goal

pub returns-in_err-check_counted : goal.returns-in_err-check_counted
returns-in_err-check_counted c =
    let e = err_from_is_err_and _ c.from_residual.ensures.1 in
    let is : c.from_residual.result ≡ Err c.in_err-check_counted.field-0.0 = e.1 ∙ rw e.2 in
    rw is (rows_refused _ _ (sym c.check_counted.ensures ∙ c.in_err-check_counted.was))

pub carve_rows-added-requires-clause-ready : goal.carve_rows-added-requires-clause-ready
carve_rows-added-requires-clause-ready c =
    ready _ _ _ _ _ _ (sym c.check_counted.ensures ∙ c.in_ok-check_counted.was) (record { rows_are = refl; cols_are = refl; width_is = refl; room_is = c.room-room.ensures; n_is = refl })

pub returns : goal.returns
returns c =
    carved _ _ _ _ c.carve_rows-added.result _ _ _ (sym c.check_counted.ensures ∙ c.in_ok-check_counted.was)
    (record { rows_are = refl; cols_are = refl; width_is = refl; room_is = c.room-room.ensures; n_is = refl }) refl c.carve_rows-added.ensures c.filled.ensures (search rules) (search rules)
