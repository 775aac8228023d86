-- `filter::inner::pass_high` meets its contract: the offsets before o are passed over (`PassedOverIs`).
-- Assumes nothing.
use Prim.Native.Nat.{◌-◌}
use mathlib.Core.Path.{◌≡◌, refl, sym, ◌∙◌}
use native.Mathlib.Omega.{arith}
use borrow.Author.Rules.{rules}
use Rattle.record.proofs.Numbers.{by_order}
use Rattle.filter.specs.Inner.{MissAt}
use Rattle.filter.proofs.Headers.{large_not}
use Rattle.filter.proofs.Laws.{passed_none, passed_one, passed_few}
use Rattle.filter.proofs.Runs.{run_varint}
use Rattle.filter.proofs.inner.pass_high.Goals as goal
use Rattle.filter.proofs.inner.pass_high.Goals.{After-varint_end}

-- the attempt at o
missed : (c : After-varint_end) →
    MissAt c.args.bytes.now c.args.hints.now c.loop-o.o (c.varint_end.result - c.loop-o.o)
missed c =
    let e = c.varint_end.ensures ∙ sym (run_varint _ _ c.requires.holds.is c.loop-o.o (omega (arith, c.requires.holds.from_there, c.loop-o.invariant.0)) (omega (arith, c.loop-o-test.true, c.min-end.ensures))) in
    rw e (large_not c.args.bytes.now _ c.loop-o.o _ (omega (arith, c.loop-o-test.true, c.min-end.ensures, c.requires.holds.is.inside)) refl c.if-bytes-o-lt133.false (omega (arith, c.type_inv.bytes c.loop-o.o)))

pub loop-o-init : goal.loop-o-init
loop-o-init c = (search rules, passed_none _ _ _ _)

pub bounds-bytes-o : goal.bounds-bytes-o
bounds-bytes-o c = omega (arith, c.loop-o-test.true, c.min-end.ensures, c.requires.last_in_bounds.0)

pub returns-then-bytes-o-lt133 : goal.returns-then-bytes-o-lt133
returns-then-bytes-o-lt133 c = c.loop-o.invariant.1

pub varint_end-requires : goal.varint_end-requires
varint_end-requires c = (omega (arith, c.loop-o-test.true, c.min-end.ensures), c.requires.holds.is.inside)

pub overflow_sub-read : goal.overflow_sub-read
overflow_sub-read c =
    omega (arith, c.varint_end.ensures, c.loop-o-test.true, c.min-end.ensures, c.requires.holds.is.inside)

pub overflow_add-read : goal.overflow_add-read
overflow_add-read c =
    omega (arith, passed_few _ _ _ _ _ _ c.loop-o.invariant.1, (missed c).few, c.requires.last_in_bounds.0, c.requires.last_in_bounds.1)

pub loop-o-preserved : goal.loop-o-preserved
loop-o-preserved c = (omega (arith, c.loop-o.invariant.0), passed_one _ _ _ _ _ _ c.loop-o.invariant.1 _ (omega (arith, c.loop-o-test.true, c.min-end.ensures)) (missed c))

pub returns : goal.returns
returns c =
    let e : c.max.result ≡ c.loop-o.o =
    by_order c.args.start c.args.last
    (λ lt. omega (arith, c.max.ensures, c.min-end.ensures, c.loop-o-test.false, c.loop-o.auto, c.requires.holds.to_there))
    (λ ge. omega (arith, c.max.ensures, c.min-end.ensures, c.requires.holds.to_there, c.loop-o.invariant.1.early ge)) in
    rw e c.loop-o.invariant.1
