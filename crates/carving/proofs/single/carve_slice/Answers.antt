-- `carving::single::carve_slice` meets its contract: a check refuses, or the page is carved.
-- Assumes nothing.
use Rattle.std.proofs.lemmas.Result.{err_from_is_err_and}
use Rattle.std.specs.Prelude.{Err}
use mathlib.Core.Path.{◌≡◌, sym, ◌∙◌}
use mathlib.Core.Bool.{false}
use borrow.Author.Tests.{ltb-false}
use lib.Dec.{ltb}
use lib.ListN.{length}
use Rattle.carving.specs.Calls.{width_by, slice_checks_by}
use Rattle.carving.proofs.Callers.{wide_refuses, narrow_on, slice_filling_lem}
use Rattle.sheet.proofs.Filling.{rows_refused, rows_filled}
use Rattle.sheet.specs.Refusal.{first_held}
use Rattle.sheet.specs.Slice.{slice_checks}
use Rattle.carving.proofs.single.carve_slice.Goals as goal
use Rattle.carving.proofs.single.carve_slice.Goals.{Else-refuses}

pub returns-then-refuses : goal.returns-then-refuses
returns-then-refuses c =
    rows_refused _ _
    (wide_refuses c.args.how (length c.args.hints.now) (slice_checks (length c.args.page.now) c.args.hints.now c.args.base) (sym c.refuses.ensures ∙ c.if-refuses.true))

-- the table is not too wide, so the other checks decide
not_wide : (c : Else-refuses) → ltb (width_by c.args.how) (length c.args.hints.now) ≡ false
not_wide c = sym c.refuses.ensures ∙ c.if-refuses.false

others : (c : Else-refuses) →
    first_held (slice_checks_by c.args.how (length c.args.page.now) c.args.hints.now c.args.base) ≡ first_held (slice_checks (length c.args.page.now) c.args.hints.now c.args.base)
others c = narrow_on c.args.how (length c.args.hints.now) (slice_checks (length c.args.page.now) c.args.hints.now c.args.base) (not_wide c)

pub returns-in_err-check_slice : goal.returns-in_err-check_slice
returns-in_err-check_slice c =
    let e = err_from_is_err_and _ c.from_residual.ensures.1 in
    let is : c.from_residual.result ≡ Err c.in_err-check_slice.field-0.0 = e.1 ∙ rw e.2 in
    rw is (rows_refused _ _ (others (goal.at.returns-in_err-check_slice c).Else-refuses ∙ sym c.check_slice.ensures ∙ c.in_err-check_slice.was))

pub fill-requires : goal.fill-requires
fill-requires c =
    slice_filling_lem c.args.how (length c.args.page.now) c.args.hints.now c.args.base (ltb-false _ _ (not_wide (goal.at.fill-requires c).Else-refuses)) (sym c.check_slice.ensures ∙ c.in_ok-check_slice.was)

pub returns : goal.returns
returns c =
    rows_filled _ _ (others (goal.at.returns c).Else-refuses ∙ sym c.check_slice.ensures ∙ c.in_ok-check_slice.was) c.fill.ensures
