-- `attempt::inner::header::last_end` meets its contract: any byte below 128 before the header's end will do (`ends_pass`), and so will its start.
-- Assumes nothing.
use Prim.Native.Nat.{◌+◌}
use native.Mathlib.Omega.{arith}
use Rattle.attempt.proofs.Skipping.{ends_start, ends_pass}
use Rattle.attempt.proofs.inner.header.last_end.Goals as goal

pub returns-then-bytes-last-lt128 : goal.returns-then-bytes-last-lt128
returns-then-bytes-last-lt128 c =
    ends_pass c.args.bytes.now (c.args.o + c.args.head) c.requires.headed.inside _ (omega arith) c.if-bytes-last-lt128.true c.args.head c.args.from (omega arith) (omega (arith, c.requires.headed.past))

pub returns : goal.returns
returns c = ends_start _ _ c.requires.headed.inside _ _ (omega (arith, c.requires.headed.past))
