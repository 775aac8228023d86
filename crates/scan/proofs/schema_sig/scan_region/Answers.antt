-- `scan::schema_sig::scan_region` meets its contract: what is refused leaves all as it was, and what is not is a run.
-- Assumes nothing.
use Rattle.std.proofs.lemmas.Result.{err_from_is_err_and}
use Rattle.std.specs.Prelude.{Err}
use mathlib.Core.Path.{◌≡◌, sym, ◌∙◌}
use borrow.Author.Rules.{rules}
use Rattle.scan.proofs.Answers.{scan_refused, ran_asked}
use Rattle.scan.proofs.Checks.{passed}
use Rattle.scan.proofs.schema_sig.scan_region.Goals as goal

pub returns-in_err-check_slice : goal.returns-in_err-check_slice
returns-in_err-check_slice c =
    let e = err_from_is_err_and _ c.from_residual.ensures.1 in
    let is : c.from_residual.result ≡ Err c.in_err-check_slice.field-0.0 = e.1 ∙ rw e.2 in
    rw is (scan_refused _ _ (sym c.check_slice.ensures ∙ c.in_err-check_slice.was))

pub run-requires-clause-fit : goal.run-requires-clause-fit
run-requires-clause-fit c = passed _ _ _ (sym c.check_slice.ensures ∙ c.in_ok-check_slice.was)

pub returns : goal.returns
returns c =
    ran_asked _ _ _ _ _ _ _ (sym c.check_slice.ensures ∙ c.in_ok-check_slice.was) c.room-room.ensures c.run.ensures.ran (search rules) (search rules)
