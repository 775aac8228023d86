-- `filter::inner::pass_seen` meets its contract: the offsets before o are passed over (`PassedOverIs`).
-- Assumes nothing.
use mathlib.Core.Path.{◌≡◌, refl}
use native.Mathlib.Omega.{arith}
use Rattle.record.proofs.Numbers.{by_order}
use Rattle.filter.proofs.Headers.{too_low}
use Rattle.filter.proofs.Laws.{passed_none, passed_one, passed_few}
use Rattle.filter.proofs.inner.pass_seen.Goals as goal

pub loop-o-init : goal.loop-o-init
loop-o-init c = passed_none _ _ _ _

pub bounds-bytes-o : goal.bounds-bytes-o
bounds-bytes-o c = omega (arith, c.loop-o-test.true, c.requires.0)

pub overflow_add-read : goal.overflow_add-read
overflow_add-read c = omega (arith, passed_few _ _ _ _ _ _ c.loop-o.invariant, c.requires.0, c.requires.1)

pub loop-o-preserved-then-bytes-o-lt2 : goal.loop-o-preserved-then-bytes-o-lt2
loop-o-preserved-then-bytes-o-lt2 c =
    passed_one _ _ _ _ _ _ c.loop-o.invariant _ c.loop-o-test.true (too_low _ _ _ _ (omega (arith, c.loop-o-test.true, c.requires.0)) refl (omega (arith, c.if-bytes-o-lt2.true)) c.if-bytes-o-lt2.true)

pub look-requires : goal.look-requires
look-requires c = record { o_in_bounds = (omega (arith, c.loop-o-test.true, c.requires.0), c.if-bytes-o-lt2.false); sizes_fit = (c.requires.1, c.requires.2) }

pub returns-in_default : goal.returns-in_default
returns-in_default c = c.loop-o.invariant

pub overflow_add-read-in-loop-o : goal.overflow_add-read-in-loop-o
overflow_add-read-in-loop-o c =
    omega (arith, passed_few _ _ _ _ _ _ c.loop-o.invariant, c.in-Some.ensures.few, c.requires.0, c.requires.1)

pub loop-o-preserved : goal.loop-o-preserved
loop-o-preserved c = passed_one _ _ _ _ _ _ c.loop-o.invariant _ c.loop-o-test.true c.in-Some.ensures

pub returns : goal.returns
returns c =
    let e : c.max.result ≡ c.loop-o.o =
    by_order c.args.start c.args.last
    (λ lt. omega (arith, c.max.ensures, c.loop-o-test.false, c.loop-o.invariant.near lt))
    (λ ge. omega (arith, c.max.ensures, c.loop-o.invariant.early ge)) in
    rw e c.loop-o.invariant
