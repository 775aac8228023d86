-- `record::record::int_at` meets its contract: below half of `whole` the number is v, and from there up v - whole.
-- Assumes nothing.
use Prim.Native.Nat.{suc, ◌-◌, ◌*◌, ◌^◌, ◌<◌, ◌≤◌}
use mathlib.Core.Path.{◌≡◌, sym, ◌∙◌, ap}
use native.Mathlib.Omega.{arith}
use lib.IntN.{negsuc, ◌-ℤ◌}
use lib.Pow.{pow_mono}
use mir.Syntax.{w64}
use mir.Val.{to_z}
use mir.Facts.{to_z_pos, to_z-of_z}
use Rattle.record.specs.Value.{twos_complement}
use Rattle.record.proofs.Numbers.{below_zero, below_half, from_half}
use Rattle.record.proofs.record.int_at.Goals as goal
use Rattle.record.proofs.record.int_at.Goals.{After-big_endian-v, Else-v-whole}

-- the bytes' number is below two to the width, and that fits a signed word
limit : (c : After-big_endian-v) → (c.big_endian-v.result < c.args.whole) × (c.args.whole < 2 ^ 63)
limit c =
    let p : 2 ^ (8 * c.args.n) ≤ 2 ^ 56 = pow_mono {j = 56} (omega arith) in
    (omega (arith, c.big_endian-v.ensures.small), omega arith)

-- v - whole, as the machine takes it
negative : (c : Else-v-whole) → c.args.whole < 2 ^ 63 → c.big_endian-v.result < c.args.whole → to_z w64 c.big_endian-v.result -ℤ to_z w64 c.args.whole ≡ negsuc (c.args.whole - suc c.big_endian-v.result)
negative c fits less =
    rw (to_z_pos w64 {n = c.big_endian-v.result} (omega arith), to_z_pos w64 fits) (below_zero _ _ less)

pub returns-then-v-whole : goal.returns-then-v-whole
returns-then-v-whole c =
    let l = limit (goal.at.returns-then-v-whole c).After-big_endian-v in
    to_z_pos w64 {n = c.big_endian-v.result} (omega arith)
    ∙ sym (below_half (8 * c.args.n) c.args.whole _ c.requires.whole_of_n_bytes.2 c.if-v-whole.true)
    ∙ ap (twos_complement (8 * c.args.n)) c.big_endian-v.ensures.value

pub overflow_cast-result-else-v-whole-2 : goal.overflow_cast-result-else-v-whole-2
overflow_cast-result-else-v-whole-2 c = record { sfits = (limit (goal.at.overflow_cast-result-else-v-whole-2 c).After-big_endian-v).1 }

pub overflow_sub-result : goal.overflow_sub-result
overflow_sub-result c = let l = limit (goal.at.overflow_sub-result c).After-big_endian-v in rw (negative c l.1 l.0) (record { sfits = omega arith })

pub returns-else-v-whole : goal.returns-else-v-whole
returns-else-v-whole c =
    let l = limit (goal.at.returns-else-v-whole c).After-big_endian-v in
    to_z-of_z (overflow_sub-result c)
    ∙ negative c l.1 l.0
    ∙ sym (from_half (8 * c.args.n) c.args.whole _ c.requires.whole_of_n_bytes.2 (omega arith) c.if-v-whole.false l.0)
    ∙ ap (twos_complement (8 * c.args.n)) c.big_endian-v.ensures.value
