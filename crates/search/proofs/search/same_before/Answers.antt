-- `search::search::same_before` meets its contract.
-- Assumes nothing.
use Rattle.std.proofs.Common.{◌-◌, sym, arith}
use mathlib.Core.Bool.{not-eq-not}
use Rattle.search.proofs.Searching.{stands_byte, stands_all}
use Rattle.search.proofs.search.same_before.Goals as goal

pub returns-then-haystack-at : goal.returns-then-haystack-at
returns-then-haystack-at c = sym (not-eq-not.0 (λ h. c.if-haystack-at.true (stands_byte _ _ _ h (c.loop-j.j - 1) (omega arith))))

pub returns : goal.returns
returns c = sym (stands_all _ _ _ c.requires.pattern_in_bounds (λ k below. c.loop-j.invariant k (omega arith) below))
