-- `carving::single::carve_numbered` meets its contract: a check refuses, or the page is carved where it lies.
-- Assumes nothing.
use Rattle.std.proofs.lemmas.Result.{err_from_is_err_and}
use Rattle.std.specs.Prelude.{Err}
use mathlib.Core.Path.{◌≡◌, sym, ◌∙◌}
use mathlib.Core.Bool.{true, false}
use native.Mathlib.Omega.{arith}
use borrow.Author.Tests.{ltb-false}
use lib.Dec.{ltb}
use lib.ListN.{length}
use Rattle.carving.specs.Calls.{width_by, numbered_checks, numbered_checks_by}
use Rattle.carving.proofs.Callers.{wide_refuses, narrow_on, bad_count, bad_hints, page_decides, page_filling, hits_are, part_long}
use Rattle.sheet.proofs.Filling.{rows_refused, rows_filled}
use Rattle.page.proofs.Laws.{paged_refused, paged_at, PagedAt}
use Rattle.page.specs.Page.{page_checks}
use Rattle.sheet.specs.Limits.{count_fits}
use Rattle.sheet.specs.Refusal.{first_held}
use Rattle.carving.proofs.single.carve_numbered.Goals as goal
use Rattle.carving.proofs.single.carve_numbered.Goals.{Else-not-hint_count_fits, Else-not-hints_known, In_ok-start, then-refuses-via-then-refuses, then-refuses-via-else-refuses+then-not-hint_count_fits}

pub returns-then-refuses : goal.returns-then-refuses
returns-then-refuses c =
    let rest = numbered_checks (length c.args.db.now) c.args.size c.args.page c.args.hints.now in
    rows_refused _ _
    (elim c.then-refuses.branch [
      | then-refuses-via-then-refuses w ↦ wide_refuses c.args.how (length c.args.hints.now) rest (sym c.refuses.ensures ∙ w.if-refuses.true)
      | then-refuses-via-else-refuses+then-not-hint_count_fits w ↦
          narrow_on c.args.how (length c.args.hints.now) rest (sym c.refuses.ensures ∙ w.if-refuses.false)
          ∙ bad_count (length c.args.db.now) c.args.size c.args.page c.args.hints.now (sym w.hint_count_fits.ensures ∙ w.if-not-hint_count_fits.true)
    ])

-- the table is not too wide, so the other checks decide
not_wide : (c : Else-not-hint_count_fits) → ltb (width_by c.args.how) (length c.args.hints.now) ≡ false
not_wide c = sym c.refuses.ensures ∙ c.if-refuses.false

others : (c : Else-not-hint_count_fits) →
    first_held (numbered_checks_by c.args.how (length c.args.db.now) c.args.size c.args.page c.args.hints.now) ≡ first_held (numbered_checks (length c.args.db.now) c.args.size c.args.page c.args.hints.now)
others c = narrow_on c.args.how (length c.args.hints.now) (numbered_checks (length c.args.db.now) c.args.size c.args.page c.args.hints.now) (not_wide c)

-- the hints are few enough
fit : (c : Else-not-hint_count_fits) → count_fits (length c.args.hints.now) ≡ true
fit c = sym c.hint_count_fits.ensures ∙ c.if-not-hint_count_fits.false

pub returns-then-not-hints_known : goal.returns-then-not-hints_known
returns-then-not-hints_known c =
    let p = (goal.at.returns-then-not-hints_known c).Else-not-hint_count_fits in
    rows_refused _ _ (others p ∙ bad_hints (length c.args.db.now) c.args.size c.args.page c.args.hints.now (fit p) (sym c.hints_known.ensures ∙ c.if-not-hints_known.true))

-- and known, so the page decides
decides : (c : Else-not-hints_known) →
    first_held (numbered_checks_by c.args.how (length c.args.db.now) c.args.size c.args.page c.args.hints.now) ≡ first_held (page_checks (length c.args.db.now) c.args.size c.args.page)
decides c =
    narrow_on c.args.how (length c.args.hints.now) (numbered_checks (length c.args.db.now) c.args.size c.args.page c.args.hints.now) (sym c.refuses.ensures ∙ c.if-refuses.false)
    ∙ page_decides (length c.args.db.now) c.args.size c.args.page c.args.hints.now (sym c.hint_count_fits.ensures ∙ c.if-not-hint_count_fits.false) (sym c.hints_known.ensures ∙ c.if-not-hints_known.false)

pub returns-in_err-start : goal.returns-in_err-start
returns-in_err-start c =
    let e = err_from_is_err_and _ c.from_residual.ensures.1 in
    let is : c.from_residual.result ≡ Err c.in_err-start.field-0.0 = e.1 ∙ rw e.2 in
    rw is (rows_refused _ _ (decides (goal.at.returns-in_err-start c).Else-not-hints_known ∙ paged_refused _ _ _ _ (sym c.get_page_data.ensures.value ∙ c.in_err-start.was)))

-- the page lies where it should
lies : (c : In_ok-start) →
    PagedAt (length c.args.db.now) c.args.size c.args.page c.in_ok-start.field-0.start c.in_ok-start.field-0.len c.in_ok-start.field-0.head
lies c = paged_at _ _ _ _ (sym c.get_page_data.ensures.value ∙ c.in_ok-start.was)

pub overflow_add-start : goal.overflow_add-start
overflow_add-start c = omega (arith, (lies (goal.at.overflow_add-start c).In_ok-start).inside, (lies (goal.at.overflow_add-start c).In_ok-start).small)

pub slice_bounds-fill-end : goal.slice_bounds-fill-end
slice_bounds-fill-end c = omega (arith, (lies (goal.at.slice_bounds-fill-end c).In_ok-start).inside)

pub fill-requires : goal.fill-requires
fill-requires c =
    let p = goal.at.fill-requires c in
    let l = lies p.In_ok-start in
    rw (part_long c.args.db.now _ _ l.inside)
    (page_filling _ _ _ c.args.hints.now (fit p.Else-not-hint_count_fits) _ (ltb-false _ _ (not_wide p.Else-not-hint_count_fits)) _ _ _ l)

pub returns : goal.returns
returns c =
    let p = goal.at.returns c in
    let l = lies p.In_ok-start in
    let h = hits_are c.args.how c.args.db.now c.args.size c.args.page c.args.hints.now 0 _ _ _ l.starts l.long l.heads in
    rows_filled _ _ (decides p.Else-not-hints_known ∙ l.passed) (rw h at c.fill.ensures)
