-- `starts::inner::pass_high` meets its contract: all starts up to the last byte from 128 up are dismissed.
-- Assumes nothing.
use native.Mathlib.Omega.{arith}
use Rattle.starts.proofs.HighBytes.{none_on}
use Rattle.starts.proofs.inner.pass_high.Goals as goal

pub loop-at-preserved : goal.loop-at-preserved
loop-at-preserved c =
    let on = c.behind_high-next.ensures.on in
    let few = c.requires.payload_len_bound in (
      omega (arith, c.loop-at.invariant.0, on),
      none_on _ _ _ _ _ few.1 few.2 (omega (arith, c.requires.v_le_end.1, c.loop-at-test.true)) (omega (arith, on, c.if-next-at.false)) c.behind_high-next.ensures
          c.loop-at.invariant.1,
    )
