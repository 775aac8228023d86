-- `rebuild::inner::one_byte` meets its contract: a header of as many bytes as columns, with its length made up.
-- Assumes nothing.
use native.Mathlib.Omega.{arith}
use Rattle.rebuild.proofs.Laws.{rebuilt_cut, rebuilt_told, one_byte_guess}
use Rattle.rebuild.proofs.inner.one_byte.Goals as goal

pub returns-then-types-payload : goal.returns-then-types-payload
returns-then-types-payload c =
    let few = c.requires.hint_count_bound in
    rebuilt_cut _ _ _ c.requires.v_in_bounds.0 _ few.0 (omega (arith, few.1)) _ (one_byte_guess _ _ _) c.if-types-payload.true

pub returns : goal.returns
returns c =
    let few = c.requires.hint_count_bound in
    rw (c.short_by.ensures, c.own_bytes.ensures.value)
    (rebuilt_told c.args.payload.now c.args.hints.now _ c.requires.v_in_bounds.0 _ few.0 (omega (arith, few.1)) _ (one_byte_guess _ _ _) c.if-types-payload.false
    c.given_header.result c.given_header.ensures)
