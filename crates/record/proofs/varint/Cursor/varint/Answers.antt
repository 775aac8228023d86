-- `Cursor::varint` meets its contract.
-- Assumes nothing.
use Rattle.std.proofs.Common.{◌≡◌, suc, ◌+◌, ◌-◌, ◌^◌, ◌<◌, length, get_or, refl, sym, ◌∙◌, arith, rules}
use Rattle.record.specs.Varint.{varint_from, varint_at}
use Rattle.record.proofs.Numbers.{at_most, one_more}
use Rattle.record.proofs.Varints.{at_end, at_ninth, at_last, at_more}
use Rattle.record.proofs.varint.Cursor.varint.Goals as goal
use Rattle.record.proofs.varint.Cursor.varint.Goals.{After-loop-n, After-wide, After-wide-b, In-loop-n}

-- in a turn at most seven bytes have been taken
small : (c : In-loop-n) → c.loop-n.v < 2 ^ 49
small c = at_most 7 7 (omega arith) c.loop-n.invariant.1

-- and at least one more byte of seven bits may come
going : (c : In-loop-n) →
    varint_at c.args.bytes.now c.args.self.at ≡ varint_from c.args.bytes.now c.loop-n.at c.loop-n.v (suc (8 - (c.loop-n.n + 1)))
going c =
    let e : 8 - c.loop-n.n ≡ suc (8 - (c.loop-n.n + 1)) = omega arith in
    rw e at c.loop-n.invariant.2

-- the byte that was read
read : (c : After-wide-b) → c.wide-b.result ≡ get_or c.args.bytes.now c.loop-n.at 0
read c = c.wide-b.ensures ∙ c.in_ok-get.ensures.lookup.3.1 0

byte : (c : After-wide-b) → c.wide-b.result < 256
byte c = omega (arith, read c, c.type_inv.bytes c.loop-n.at)

pub loop-n-init : goal.loop-n-init
unfolding varint_at
loop-n-init c = (search rules, search rules, refl)

pub returns-in_err-get : goal.returns-in_err-get
returns-in_err-get c = c.from_residual.ensures ∙ sym (c.loop-n.invariant.2 ∙ at_end _ _ _ _ c.in_err-get.ensures.lookup.3)

pub overflow_mul-v : goal.overflow_mul-v
overflow_mul-v c = omega (arith, small (goal.at.overflow_mul-v c).In-loop-n)

pub overflow_add-v : goal.overflow_add-v
overflow_add-v c = omega (arith, small (goal.at.overflow_add-v c).In-loop-n)

pub returns-then-b-lt128 : goal.returns-then-b-lt128
returns-then-b-lt128 c =
    let here = goal.at.returns-then-b-lt128 c in
    let e = read here.After-wide-b in
    let low = rw e at c.if-b-lt128.true in
    let n : 8 - (8 - (c.loop-n.n + 1)) ≡ c.loop-n.n + 1 = omega arith in
    c.ended.ensures ∙ rw e (sym (going here.In-loop-n ∙ at_last _ _ _ _ c.in_ok-get.ensures.lookup.3.0 low ∙ rw n))

pub overflow_mul-v-in-loop-n : goal.overflow_mul-v-in-loop-n
overflow_mul-v-in-loop-n c = omega (arith, small (goal.at.overflow_mul-v-in-loop-n c).In-loop-n)

pub overflow_add-v-in-loop-n : goal.overflow_add-v-in-loop-n
overflow_add-v-in-loop-n c = omega (arith, small (goal.at.overflow_add-v-in-loop-n c).In-loop-n)

pub loop-n-preserved : goal.loop-n-preserved
loop-n-preserved c =
    let here = goal.at.loop-n-preserved c in
    let e = read here.After-wide-b in
    let high = rw e at c.if-b-lt128.false in (
      omega arith,
      one_more 7 _ _ _ c.loop-n.invariant.1 (omega arith),
      rw e (going here.In-loop-n ∙ at_more _ _ _ _ c.in_ok-get.ensures.lookup.3.0 high),
    )

-- after the loop eight bytes have been taken
full : (c : After-loop-n) → c.loop-n.v < 2 ^ 56
full c = at_most 7 8 (omega arith) c.loop-n.invariant.1

done : (c : After-loop-n) →
    varint_at c.args.bytes.now c.args.self.at ≡ varint_from c.args.bytes.now c.loop-n.at c.loop-n.v 0
done c = let e : 8 - c.loop-n.n ≡ 0 = omega arith in rw e at c.loop-n.invariant.2

pub returns-in_err-get-2 : goal.returns-in_err-get-2
returns-in_err-get-2 c =
    c.from_residual-in_err-get-2.ensures ∙ sym (c.loop-n.invariant.2 ∙ at_end _ _ _ _ c.in_err-get-2.ensures.lookup.3)

pub overflow_mul-v-2 : goal.overflow_mul-v-2
overflow_mul-v-2 c = omega (arith, full c)

-- and the ninth has eight bits
ninth : (c : After-wide) → c.wide.result ≡ get_or c.args.bytes.now c.loop-n.at 0
ninth c = c.wide.ensures ∙ c.in_ok-get-2.ensures.lookup.3.1 0

pub overflow_add-wide : goal.overflow_add-wide
overflow_add-wide c = omega (arith, full (goal.at.overflow_add-wide c).After-loop-n, ninth c, c.type_inv.bytes c.loop-n.at)

pub returns : goal.returns
returns c =
    let here = goal.at.returns c in
    c.ended-2.ensures ∙ rw (ninth here.After-wide) (sym (done here.After-loop-n ∙ at_ninth _ _ _ 0 c.in_ok-get-2.ensures.lookup.3.0))
