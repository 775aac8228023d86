-- `learn::learn::learn_signatures` meets its contract: each way out is a law of the call.
-- Assumes nothing.
use Rattle.std.proofs.lemmas.Result.{err_from_is_err_and}
use Rattle.std.specs.Prelude.{Some, Err}
use mathlib.Core.Path.{◌≡◌, sym, ◌∙◌}
use mathlib.Core.Bool.{true}
use native.Mathlib.Nat.{div-mul-le_self}
use native.Mathlib.Omega.{arith}
use Rattle.groups.specs.Judging.{judged_rows}
use Rattle.groups.specs.Rows.{row_count, rows_in}
use Rattle.sheet.specs.Limits.{count_fits}
use Rattle.sheet.specs.declared.refusal.Refusal.TheVariants.{Malformed}
use Rattle.sheet.proofs.Laws.{count_fits_lem}
use Rattle.learn.proofs.Learning.{bad_width, bad_rows_lem, columns_fit, too_long_lem, too_many_lem, all_good, was_good, was_bad}
use Rattle.learn.proofs.learn.learn_signatures.Goals as goal
use Rattle.learn.proofs.learn.learn_signatures.Goals.{Else-not-hint_count_fits, In_ok-columns, then-bytes-gt-LARGEST_REGION-via-then-bytes-gt-LARGEST_REGION, then-bytes-gt-LARGEST_REGION-via-else-bytes-gt-LARGEST_REGION+then-rows-gt-MOST_ROWS}

-- the width is one that there may be
fits : (c : Else-not-hint_count_fits) → count_fits c.args.width ≡ true
fits c = sym c.hint_count_fits.ensures ∙ c.if-not-hint_count_fits.false

pub returns-then-not-hint_count_fits : goal.returns-then-not-hint_count_fits
returns-then-not-hint_count_fits c = bad_width _ _ _ _ (sym c.hint_count_fits.ensures ∙ c.if-not-hint_count_fits.true)

pub overflow_mul-rows : goal.overflow_mul-rows
overflow_mul-rows c = omega (arith, count_fits_lem _ (fits c))

pub nonzero_div-rows : goal.nonzero_div-rows
nonzero_div-rows c = omega (arith, count_fits_lem _ (fits c))

pub judge_rows-requires : goal.judge_rows-requires
judge_rows-requires c = record { width_le_most_columns = (count_fits_lem _ (fits c)).1; width_in_bounds = div-mul-le_self _ _ }

pub returns-in_err-columns : goal.returns-in_err-columns
returns-in_err-columns c =
    let p = goal.at.returns-in_err-columns c in
    let e = err_from_is_err_and _ c.from_residual.ensures.1 in
    let bad = was_bad _ _ _ (sym c.ok_or.ensures.value ∙ c.in_err-columns.was) in
    let is : c.from_residual.result ≡ Err Malformed = e.1 ∙ rw (e.2, bad.1) in
    rw is (bad_rows_lem _ _ _ _ (fits p.Else-not-hint_count_fits) (sym bad.0 ∙ c.judge_rows.ensures))

-- the rows are good
good : (c : In_ok-columns) →
    Some c.in_ok-columns.columns ≡ judged_rows c.args.bytes.now (rows_in (row_count c.args.width c.args.entries.now) c.args.width c.args.entries.now)
good c = sym (was_good _ _ _ (sym c.ok_or.ensures.value ∙ c.in_ok-columns.was)) ∙ c.judge_rows.ensures

pub returns-then-bytes-gt-LARGEST_REGION : goal.returns-then-bytes-gt-LARGEST_REGION
returns-then-bytes-gt-LARGEST_REGION c =
    let p = goal.at.returns-then-bytes-gt-LARGEST_REGION c in
    elim c.then-bytes-gt-LARGEST_REGION.branch [
      | then-bytes-gt-LARGEST_REGION-via-then-bytes-gt-LARGEST_REGION w ↦ too_long_lem _ _ _ _ (fits p.Else-not-hint_count_fits) (good p.In_ok-columns) w.if-bytes-gt-LARGEST_REGION.true
      | then-bytes-gt-LARGEST_REGION-via-else-bytes-gt-LARGEST_REGION+then-rows-gt-MOST_ROWS w ↦
          too_many_lem _ _ _ _ (fits p.Else-not-hint_count_fits) (good p.In_ok-columns) w.if-rows-gt-MOST_ROWS.true
    ]

pub learn_columns-requires : goal.learn_columns-requires
learn_columns-requires c =
    let p = goal.at.learn_columns-requires c in
    record {
      lent = record { small = c.if-bytes-gt-LARGEST_REGION.false; narrow = (count_fits_lem _ (fits p.Else-not-hint_count_fits)).1; few = c.if-rows-gt-MOST_ROWS.false; whole = div-mul-le_self _ _ };
      columns_le_width = columns_fit _ _ c.args.entries.now (good p.In_ok-columns);
    }

pub returns : goal.returns
returns c =
    let p = goal.at.returns c in
    all_good _ _ _ _ (fits p.Else-not-hint_count_fits) (good p.In_ok-columns) c.if-bytes-gt-LARGEST_REGION.false c.if-rows-gt-MOST_ROWS.false c.learn_columns.ensures.value c.learn_columns.ensures.list
