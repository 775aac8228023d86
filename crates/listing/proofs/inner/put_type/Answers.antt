-- `listing::inner::put_type` meets its contract.
-- Assumes nothing.
use Rattle.std.proofs.Common.{◌≡◌, arith}
use Rattle.listing.proofs.Texts.{type_first, type_next}
use Rattle.listing.proofs.inner.put_type.Goals as goal

pub returns-then-k-eq0-clause-put : goal.returns-then-k-eq0-clause-put
returns-then-k-eq0-clause-put c =
    let e : c.args.k ≡ 0 = omega arith in
    rw (e, ← type_first) c.put_decimal.ensures.put

pub returns-else-k-eq0-clause-put : goal.returns-else-k-eq0-clause-put
returns-else-k-eq0-clause-put c = rw (← (type_next _ _ c.if-k-eq0.false)) c.put_number_after.ensures.put
