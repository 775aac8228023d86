-- `tables::tables::carve_tables` meets its contract: behind the checks flags and stack are cleared.
-- Assumes nothing.
use mathlib.Core.Path.{◌≡◌, sym, ◌∙◌}
use mathlib.Core.Bool.{false}
use borrow.Author.Tests.{ltb-false}
use lib.Dec.{ltb}
use lib.ListN.{length}
use Rattle.std.proofs.lemmas.Result.{err_from_is_err_and}
use Rattle.carving.proofs.Callers.{wide_refuses, narrow_on}
use Rattle.carving.specs.Calls.{width_by}
use Rattle.sheet.specs.Refusal.{first_held}
use Rattle.tables.specs.Calls.{asked, table_checks_by}
use Rattle.tables.proofs.Callers.{tables_refused, tables_passed}
use Rattle.walk.proofs.Laws.{tables_fit}
use Rattle.walk.specs.Carve.{widest, table_checks}
use Rattle.tables.proofs.tables.carve_tables.Goals as goal
use Rattle.tables.proofs.tables.carve_tables.Goals.{Else-refuses}

pub returns-then-refuses : goal.returns-then-refuses
returns-then-refuses c =
    tables_refused _ _
    (wide_refuses c.args.how (widest c.args.counts.now) (table_checks (length c.args.db.now) c.args.size c.args.roots.now c.args.counts.now c.args.hints.now)
    (rw c.widest.ensures at (sym c.refuses.ensures ∙ c.if-refuses.true)))

-- no table is too wide, so the other checks decide
narrow : (c : Else-refuses) → ltb (width_by c.args.how) (widest c.args.counts.now) ≡ false
narrow c = rw c.widest.ensures at (sym c.refuses.ensures ∙ c.if-refuses.false)

others : (c : Else-refuses) →
    first_held (table_checks_by c.args.how (length c.args.db.now) c.args.size c.args.roots.now c.args.counts.now c.args.hints.now)
    ≡ first_held (table_checks (length c.args.db.now) c.args.size c.args.roots.now c.args.counts.now c.args.hints.now)
others c =
    narrow_on c.args.how (widest c.args.counts.now) (table_checks (length c.args.db.now) c.args.size c.args.roots.now c.args.counts.now c.args.hints.now) (narrow c)

pub returns-in_err-check : goal.returns-in_err-check
returns-in_err-check c =
    let p = err_from_is_err_and c.from_residual.result c.from_residual.ensures.1 in
    rw (p.1, p.2) (tables_refused _ _ (others (goal.at.returns-in_err-check c).Else-refuses ∙ sym c.check.ensures ∙ c.in_err-check.was))

pub carve_checked-answer-requires : goal.carve_checked-answer-requires
carve_checked-answer-requires c =
    record {
      taken_by_mode = ltb-false _ _ (narrow (goal.at.carve_checked-answer-requires c).Else-refuses);
      tables_fit = tables_fit (length c.args.db.now) c.args.size c.args.roots.now c.args.counts.now c.args.hints.now (sym c.check.ensures ∙ c.in_ok-check.was);
    }

pub returns : goal.returns
returns c =
    rw (c.fill.ensures.after (λ y h. h), c.fill-2.ensures.after (λ y h. h), c.carve_checked-answer.auto.flags, c.carve_checked-answer.auto.stack)
    (tables_passed (asked c.args.how c.args.db.now c.args.size c.args.roots.now c.args.counts.now c.args.hints.now c.args.flags.now c.args.stack.now c.args.rows.now c.args.cols.now) _ _ _
    (others (goal.at.returns c).Else-refuses ∙ sym c.check.ensures ∙ c.in_ok-check.was) c.carve_checked-answer.ensures)
