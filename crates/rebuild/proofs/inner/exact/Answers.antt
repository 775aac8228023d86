-- `rebuild::inner::exact` meets its contract: a header that ends where the last of as many types as columns does, with its length made up.
-- Assumes nothing.
use mathlib.Core.Path.{◌∙◌}
use native.Mathlib.Omega.{arith}
use Rattle.rebuild.proofs.Laws.{rebuilt_told}
use Rattle.rebuild.proofs.Reading.{taken_guess, taken_header, taken_mark, taken_inside, taken_headed}
use Rattle.rebuild.proofs.inner.exact.Goals as goal

pub judge-requires : goal.judge-requires
judge-requires c =
    let t = c.in_ok-walk.ensures.1 in
    let start = c.requires.v_in_bounds.0 in
    record { headed = taken_headed _ _ _ _ _ _ _ start t; whole_is = rw (taken_header _ _ _ _ _ _ _ start t) (rw t.whole.marks at t.whole) }

pub returns : goal.returns
returns c =
    let t = c.in_ok-walk.ensures.1 in
    let start = c.requires.v_in_bounds.0 in
    let mark = taken_mark _ _ _ _ _ _ _ start t ∙ t.whole.marks in
    rw (c.short_by.ensures, c.own_bytes.ensures.value)
    (rebuilt_told c.args.payload.now c.args.hints.now _ start _ (omega (arith, t.past)) (omega (arith, t.near)) _ (taken_guess _ _ _ _ _ _ _ start t)
    (omega (arith, taken_inside _ _ _ _ _ _ _ start t)) c.judge.result (rw mark c.judge.ensures))
