-- `record::inner::skip_varint` meets its contract.
-- Assumes nothing.
use Rattle.std.proofs.Common.{◌≡◌, suc, ◌+◌, ◌-◌, refl, sym, ap, ◌∙◌, arith}
use Rattle.record.specs.Places.{stop_of}
use Rattle.record.specs.Varint.{varint_from, varint_at}
use Rattle.record.proofs.Varints.{at_end, at_ninth, at_last, at_more}
use Rattle.record.proofs.inner.skip_varint.Goals as goal
use Rattle.record.proofs.inner.skip_varint.Goals.{After-loop, In-loop}

-- in a turn a byte of seven bits may come
going : (c : In-loop) →
    varint_at c.args.bytes.now c.args.from ≡ varint_from c.args.bytes.now c.loop.at c.loop.invariant.0 (suc (8 - (c.loop.counter + 1)))
going c =
    let e : 8 - c.loop.counter ≡ suc (8 - (c.loop.counter + 1)) = omega arith in
    rw e at c.loop.invariant.1

-- after the loop only one of eight
ninth : (c : After-loop) →
    varint_at c.args.bytes.now c.args.from ≡ varint_from c.args.bytes.now c.loop.at c.loop.invariant.0 0
ninth c = let e : 8 - c.loop.counter ≡ 0 = omega arith in rw e at c.loop.invariant.1

pub loop-init : goal.loop-init
unfolding varint_at
loop-init c = (0, refl)

pub returns-then-at-bytes : goal.returns-then-at-bytes
returns-then-at-bytes c = sym (ap (stop_of _) (c.loop.invariant.1 ∙ at_end _ _ _ _ c.if-at-bytes.true))

pub returns-then-bytes-at-lt128 : goal.returns-then-bytes-at-lt128
returns-then-bytes-at-lt128 c = sym (ap (stop_of _) (going (goal.at.returns-then-bytes-at-lt128 c).In-loop ∙ at_last _ _ _ _ c.if-at-bytes.false c.if-bytes-at-lt128.true))

pub loop-preserved : goal.loop-preserved
loop-preserved c = (_, going (goal.at.loop-preserved c).In-loop ∙ at_more _ _ _ _ c.if-at-bytes.false c.if-bytes-at-lt128.false)

pub returns-then-at-bytes-2 : goal.returns-then-at-bytes-2
returns-then-at-bytes-2 c = sym (ap (stop_of _) (ninth (goal.at.returns-then-at-bytes-2 c).After-loop ∙ at_ninth _ _ _ 0 c.if-at-bytes-2.true))

pub returns-else-at-bytes-2 : goal.returns-else-at-bytes-2
returns-else-at-bytes-2 c = sym (ap (stop_of _) (c.loop.invariant.1 ∙ at_end _ _ _ _ c.if-at-bytes-2.false))
