-- `filter::inner::pass_header` meets its contract: each way out is a law of `proofs/Headers.antt`.
-- Assumes nothing.
use native.Mathlib.Omega.{arith}
use Rattle.filter.proofs.Headers.{one_past, one_never}
use Rattle.filter.proofs.Laws.{passed_first}
use Rattle.filter.proofs.inner.pass_header.Goals as goal

pub overflow_sub-read : goal.overflow_sub-read
overflow_sub-read c = rw c.types_end.ensures (one_past _ c.args.hints.now _ _ c.requires.o_in_bounds.0 c.requires.o_in_bounds.1 c.requires.o_in_bounds.3 c.requires.o_in_bounds.2 c.if-head-bytes.false)

pub returns : goal.returns
returns c =
    let none = rw c.if-may_stand.false at c.may_stand.ensures in
    let m = one_never _ _ _ _ c.requires.o_in_bounds.0 c.requires.o_in_bounds.1 c.requires.o_in_bounds.3 c.requires.o_in_bounds.2 c.if-head-bytes.false none in
    record { passed = passed_first _ _ _ _ _ (omega arith) (rw c.types_end.ensures m); run_is = c.run_around-around.ensures.is }
