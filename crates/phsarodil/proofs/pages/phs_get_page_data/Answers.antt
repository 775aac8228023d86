-- `phs_get_page_data` meets its contract: number and words are those of the answer.
-- Assumes nothing.
use mathlib.Core.Path.{sym, ◌∙◌}
use Rattle.phsarodil.proofs.pages.phs_get_page_data.Goals as goal

pub returns-in-Ok : goal.returns-in-Ok
returns-in-Ok c =
    let e = sym c.get_page_data.ensures.value ∙ c.in-Ok.is in
    record { number = rw e; out = rw e }

pub returns-in-Err : goal.returns-in-Err
returns-in-Err c =
    let e = sym c.get_page_data.ensures.value ∙ c.in-Err.is in
    record { number = rw e c.number.ensures; out = rw e }
