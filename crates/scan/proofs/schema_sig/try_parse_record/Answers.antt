-- `scan::schema_sig::try_parse_record` meets its contract: what is refused leaves all as it was, and what is not is one attempt.
-- Assumes nothing.
use Rattle.std.proofs.lemmas.Result.{err_from_is_err_and}
use Rattle.std.specs.Prelude.{Err}
use mathlib.Core.Path.{◌≡◌, sym, ◌∙◌}
use borrow.Author.Rules.{rules}
use Rattle.scan.proofs.Checks.{passed}
use Rattle.scan.proofs.OneAttempt.{tried_asked}
use Rattle.sheet.proofs.Filling.{rows_refused}
use Rattle.scan.proofs.schema_sig.try_parse_record.Goals as goal

pub returns-in_err-check_slice : goal.returns-in_err-check_slice
returns-in_err-check_slice c =
    let e = err_from_is_err_and _ c.from_residual.ensures.1 in
    let is : c.from_residual.result ≡ Err c.in_err-check_slice.field-0.0 = e.1 ∙ rw e.2 in
    rw is (rows_refused _ _ (sym c.check_slice.ensures ∙ c.in_err-check_slice.was))

pub once-requires-clause-fit : goal.once-requires-clause-fit
once-requires-clause-fit c = passed _ _ _ (sym c.check_slice.ensures ∙ c.in_ok-check_slice.was)

pub returns : goal.returns
returns c =
    tried_asked _ _ _ _ _ _ (sym c.check_slice.ensures ∙ c.in_ok-check_slice.was) c.once.ensures.filled (search rules) (search rules)
