-- `filter::inner::types::soon_ends` meets its contract by laws of `proofs/Headers.antt`.
-- Assumes nothing.
use Prim.Native.Nat.{◌+◌, ◌-◌, ◌<◌}
use native.Mathlib.Omega.{arith}
use Rattle.attempt.proofs.Skipping.{skip_past}
use Rattle.filter.proofs.Headers.{ends_last, ends_next}
use Rattle.filter.proofs.inner.types.soon_ends.Goals as goal
use Rattle.filter.proofs.inner.types.soon_ends.Goals.{After-skip_varint}

pub returns-then-bytes-stop-lt128 : goal.returns-then-bytes-stop-lt128
returns-then-bytes-stop-lt128 c = ends_last _ _ _ c.requires.1 c.requires.0 c.if-bytes-stop-lt128.true

-- behind o
past : (c : After-skip_varint) → c.args.o < c.skip_varint.result
past c =
    omega (arith, c.skip_varint.ensures, c.requires.0, skip_past c.args.bytes.now (c.args.o + c.args.head) c.requires.1 (c.args.o + c.args.head - 1) (omega (arith, c.requires.0)))

pub overflow_sub-result : goal.overflow_sub-result
overflow_sub-result c = omega (arith, past c)

pub returns-then-bytes-stop-lt128-2 : goal.returns-then-bytes-stop-lt128-2
returns-then-bytes-stop-lt128-2 c = ends_next _ _ _ c.requires.1 c.requires.0 c.if-bytes-stop-lt128-2.true _ (omega (arith, c.skip_varint.ensures, past c))
