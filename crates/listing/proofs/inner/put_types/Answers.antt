-- `listing::inner::put_types` meets its contract.
-- Assumes nothing.
use Rattle.std.proofs.Common.{arith}
use Rattle.digits.proofs.Laws.{puts_none, puts_more}
use Rattle.listing.proofs.Texts.{types_none, types_more}
use Rattle.listing.proofs.inner.put_types.Goals as goal

pub loop-k-init : goal.loop-k-init
loop-k-init c = record { put = rw types_none (puts_none _); near = omega arith }

pub put_type-requires : goal.put_type-requires
put_type-requires c = omega (arith, c.loop-k.invariant.put.room)

pub loop-k-preserved : goal.loop-k-preserved
loop-k-preserved c =
    record { put = rw types_more (puts_more c.loop-k.invariant.put c.put_type.ensures.put); near = omega arith }
