-- `learn::learn::gather` meets its contract.
-- Assumes nothing.
use native.Mathlib.Omega.{arith}
use Rattle.learn.proofs.Columns.{gathered_none, gathered_more, gathered_all, entry_place}
use Rattle.learn.proofs.learn.gather.Goals as goal

pub loop-i-init : goal.loop-i-init
loop-i-init c = gathered_none

pub entry_at-requires : goal.entry_at-requires
entry_at-requires c = entry_place _ _ _ _ _ c.requires.lent.whole c.loop-i-test.true c.requires.column_lt_width

pub put_type-n-requires : goal.put_type-n-requires
put_type-n-requires c = record { bytes_len_bound = c.requires.lent.small; n_in_bounds = omega (arith, c.loop-i.invariant.few, c.requires.lent.few, c.requires.kinds_len) }

pub loop-i-preserved : goal.loop-i-preserved
loop-i-preserved c = gathered_more c.loop-i.invariant c.loop-i-test.true c.requires.column_lt_width (rw c.entry_at.ensures at c.put_type-n.ensures)

pub returns : goal.returns
returns c = record { kinds_after = gathered_all c.loop-i.invariant c.loop-i-test.false; small = omega (arith, c.loop-i.invariant.few, c.requires.lent.few) }
