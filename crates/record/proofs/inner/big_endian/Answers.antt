-- `record::inner::big_endian` meets its contract.
-- Assumes nothing.
use Rattle.std.proofs.Common.{◌≡◌, ℕ, ◌+◌, ◌-◌, ◌*◌, ◌^◌, ◌<◌, get_or, refl, ap, add-one, arith, rules, get_or-take, get_or-drop, length-take, length-drop}
use Rattle.record.specs.Value.{big_endian}
use Rattle.record.proofs.Numbers.{at_most, one_more}
use Rattle.record.proofs.inner.big_endian.Goals as goal
use Rattle.record.proofs.inner.big_endian.Goals.{After-wide, In-loop-byte}

-- before the last byte at most seven have been taken
few : (c : In-loop-byte) → c.loop-byte.byte-index < c.args.n
few c = omega (arith, length-take {A = ℕ}, length-drop {A = ℕ})

small : (c : In-loop-byte) → c.loop-byte.v < 2 ^ 56
small c = let f = few c in at_most 8 7 (omega arith) c.loop-byte.invariant.0

-- the byte that was read
read : (c : After-wide) → c.loop-byte.byte-index < c.args.n → c.wide.result ≡ get_or c.args.bytes.now (c.args.at + c.loop-byte.byte-index) 0
read c before =
    let inside : c.loop-byte.byte-index < c.args.at + c.args.n - c.args.at = omega arith in
    rw (c.wide.ensures, get_or-take, get_or-drop)

pub loop-byte-init : goal.loop-byte-init
unfolding big_endian
loop-byte-init c = (search rules, refl)

pub overflow_mul-v : goal.overflow_mul-v
overflow_mul-v c = omega (arith, small c)

pub overflow_add-v : goal.overflow_add-v
overflow_add-v c =
    let here = (goal.at.overflow_add-v c).In-loop-byte in
    omega (arith, small here, read c (few here), c.type_inv.bytes (c.args.at + c.loop-byte.byte-index))

pub loop-byte-preserved : goal.loop-byte-preserved
unfolding big_endian
loop-byte-preserved c =
    let e = read c (few (goal.at.loop-byte-preserved c).In-loop-byte) in (
      one_more 8 _ _ _ c.loop-byte.invariant.0 (omega (arith, e, c.type_inv.bytes (c.args.at + c.loop-byte.byte-index))),
      rw (add-one, e) (ap (λ (v : ℕ). v * 256 + get_or c.args.bytes.now (c.args.at + c.loop-byte.byte-index) 0) c.loop-byte.invariant.1),
    )
