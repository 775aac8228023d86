-- `filter::inner::look` meets its contract: the first byte decides.
-- Assumes nothing.
use Prim.Native.Nat.{◌+◌}
use mathlib.Core.Path.{◌≡◌}
use native.Mathlib.Omega.{arith}
use Rattle.record.proofs.Numbers.{by_order}
use Rattle.filter.proofs.Headers.{large_short}
use Rattle.filter.proofs.inner.look.Goals as goal

pub returns-then-bytes-o-lt128 : goal.returns-then-bytes-o-lt128
returns-then-bytes-o-lt128 c =
    large_short _ _ _ _ (omega (arith, c.requires.o_in_bounds.0)) c.wide-first.ensures (omega arith) (omega (arith, c.wide-first.ensures, c.type_inv.bytes c.args.o)) 1 (omega arith) (omega arith) (omega (arith, c.requires.o_in_bounds.0))
    (λ q lo hi. let e : q ≡ c.args.o = omega arith in rw e (omega (arith, c.wide-first.ensures)))
    c.if-bytes-o-lt128.true

pub returns-then-bytes-o-lt128-2 : goal.returns-then-bytes-o-lt128-2
returns-then-bytes-o-lt128-2 c =
    large_short _ _ _ _ (omega (arith, c.requires.o_in_bounds.0)) c.wide-first.ensures (omega arith) (omega (arith, c.wide-first.ensures, c.type_inv.bytes c.args.o)) 2 (omega arith) (omega arith) (omega (arith, c.requires.o_in_bounds.0))
    (λ q lo hi.
    by_order c.args.o q
    (λ next. let e : q ≡ c.args.o + 1 = omega arith in rw e c.if-bytes-o-lt128.false)
    (λ here. let e : q ≡ c.args.o = omega arith in rw e (omega (arith, c.wide-first.ensures))))
    c.if-bytes-o-lt128-2.true
