-- `readings::statement::read_statement` meets its contract: each answer is the one of its checks, in their order.
-- Assumes nothing.
use Prim.Native.Nat.{ℕ, ◌≤◌}
use mathlib.Core.Path.{◌≡◌, sym, ap, ◌∙◌}
use mathlib.Core.Bool.{true}
use mathlib.Core.List.{List, ◌++◌}
use native.Mathlib.Omega.{arith}
use lib.ListN.{length, take, drop, replicate}
use lib.Seq.{length-take-le}
use Rattle.std.proofs.Common.{rules}
use Rattle.std.specs.Prelude.{Err}
use Rattle.sheet.specs.declared.refusal.Refusal.TheVariants.{NoColumnList}
use Rattle.readings.specs.Statement.{all_hints}
use Rattle.words.specs.Words.{pieces}
use Rattle.readings.proofs.StatementLaws.{taken, copied, fits_most, too_large_lem, no_list, Counts, bad_count, full, done}
use Rattle.sheet.specs.Filled.{laid}
use Rattle.sheet.specs.Limits.{most_columns, any_hint, count_fits}
use Rattle.readings.proofs.statement.read_statement.Goals as goal
use Rattle.readings.proofs.statement.read_statement.Goals.{After-read_hints-count, Else-not-hint_count_fits, After-copy_from_slice, After-min-n}

-- what is counted are the hints of the columns,
counts : (c : After-read_hints-count) → Counts c.args.reading c.args.statement.now c.in_ok-columns.columns.now c.read_hints-count.result
counts c =
    let told = rw c.in_ok-columns.ensures.ok_part at c.column_list.ensures in
    record {
      lists = record {
        small = c.if-statement-gt-LARGEST_STATEMENT.false;
        listed = told.0;
        are = told.1;
      };
      number = c.read_hints-count.ensures.value;
    }

-- they are not too many,
fits : (c : Else-not-hint_count_fits) → count_fits c.read_hints-count.result ≡ true
fits c = sym c.hint_count_fits.ensures ∙ c.if-not-hint_count_fits.false

room : (c : Else-not-hint_count_fits) → c.read_hints-count.result ≤ length c.read_hints-count.new.hints
room c = omega (arith, fits_most _ (fits c), c.read_hints-count.auto.hints)

-- and the first cells hold them, as many as are copied
held : (c : Else-not-hint_count_fits) → take c.read_hints-count.result c.read_hints-count.new.hints ≡ all_hints c.args.reading (pieces c.in_ok-columns.columns.now)
held c = taken _ (replicate most_columns any_hint) c.read_hints-count.ensures.list c.read_hints-count.ensures.value (fits_most _ (fits c))

after : (c : After-copy_from_slice) {all : List ℕ} → take c.read_hints-count.result c.read_hints-count.new.hints ≡ all → c.read_hints-count.result ≡ length all →
    c.copy_from_slice.new.self ++ drop c.min-n.result c.args.hints.now ≡ laid all c.args.hints.now
after c first e =
    ap (λ l. l ++ drop c.min-n.result c.args.hints.now) c.copy_from_slice.ensures.after ∙ copied _ c.args.hints.now c.read_hints-count.new.hints first e c.min-n.ensures

pub returns-then-statement-gt-LARGEST_STATEMENT : goal.returns-then-statement-gt-LARGEST_STATEMENT
returns-then-statement-gt-LARGEST_STATEMENT c = too_large_lem _ _ _ c.if-statement-gt-LARGEST_STATEMENT.true

pub returns-in_err-columns : goal.returns-in_err-columns
returns-in_err-columns c =
    let told = rw c.in_err-columns.ensures.ok_part at c.column_list.ensures in
    let is : c.from_residual.result ≡ Err NoColumnList = search rules in
    rw is (no_list _ _ _ c.if-statement-gt-LARGEST_STATEMENT.false told)

pub returns-then-not-hint_count_fits : goal.returns-then-not-hint_count_fits
returns-then-not-hint_count_fits c =
    bad_count (counts (goal.at.returns-then-not-hint_count_fits c).After-read_hints-count) _ (sym c.hint_count_fits.ensures ∙ c.if-not-hint_count_fits.true)

pub slice_bounds-found-end : goal.slice_bounds-found-end
slice_bounds-found-end c = omega (arith, c.min-n.ensures, room (goal.at.slice_bounds-found-end c).Else-not-hint_count_fits)

pub slice_bounds-copy_from_slice-end-3 : goal.slice_bounds-copy_from_slice-end-3
slice_bounds-copy_from_slice-end-3 c = sym (length-take-le _ _ (omega (arith, c.min-n.ensures, room (goal.at.slice_bounds-copy_from_slice-end-3 c).Else-not-hint_count_fits)))

pub copy_from_slice-requires : goal.copy_from_slice-requires
copy_from_slice-requires c = length-take-le _ _ (omega (arith, c.min-n.ensures)) ∙ sym (length-take-le _ _ (omega (arith, c.min-n.ensures, room (goal.at.copy_from_slice-requires c).Else-not-hint_count_fits)))

pub returns-then-n-count : goal.returns-then-n-count
returns-then-n-count c =
    full (counts (goal.at.returns-then-n-count c).After-read_hints-count) _ _ (fits (goal.at.returns-then-n-count c).Else-not-hint_count_fits) (after (goal.at.returns-then-n-count c).After-copy_from_slice (held (goal.at.returns-then-n-count c).Else-not-hint_count_fits) c.read_hints-count.ensures.value) (omega (arith, c.min-n.ensures)) c.if-n-count.true

pub returns-else-n-count : goal.returns-else-n-count
returns-else-n-count c =
    done (counts (goal.at.returns-else-n-count c).After-read_hints-count) _ _ (fits (goal.at.returns-else-n-count c).Else-not-hint_count_fits) (after (goal.at.returns-else-n-count c).After-copy_from_slice (held (goal.at.returns-else-n-count c).Else-not-hint_count_fits) c.read_hints-count.ensures.value) (omega (arith, c.min-n.ensures))
