-- `search::search::leap` meets its contract.
-- Assumes nothing.
use Prim.Native.Nat.{◌+◌, ◌≤◌}
use native.Mathlib.Omega.{arith}
use lib.ListN.{length}
use Rattle.search.specs.Inner.{Skips}
use Rattle.search.proofs.Searching.{pass_none, pass_more, at_most, moved}
use Rattle.search.proofs.search.leap.Goals as goal
use Rattle.search.proofs.search.leap.Goals.{After-shifted-i, After-shifted-i-in-loop-i, After-shifted-i-in-loop-i-2}

-- what each of the three shifts does
one : (c : After-shifted-i) →
    Skips c.args.haystack.now c.args.pattern.now c.args.from c.shifted-i.result × (c.loop-i.i ≤ c.shifted-i.result)
    × (c.shifted-i.result ≤ c.loop-i.i + length c.args.pattern.now)
one c = pass_more c.requires (omega arith) (c.shifted-i.ensures.value, c.shifted-i.ensures.byte) c.loop-i.invariant

two : (c : After-shifted-i-in-loop-i) →
    Skips c.args.haystack.now c.args.pattern.now c.args.from c.shifted-i-in-loop-i.result × (c.shifted-i.result ≤ c.shifted-i-in-loop-i.result)
    × (c.shifted-i-in-loop-i.result ≤ c.shifted-i.result + length c.args.pattern.now)
two c =
    let o = pass_more c.requires (omega arith) (c.shifted-i.ensures.value, c.shifted-i.ensures.byte) c.loop-i.invariant in
    pass_more c.requires (omega (arith, o.2)) (c.shifted-i-in-loop-i.ensures.value, c.shifted-i-in-loop-i.ensures.byte) o.0

three : (c : After-shifted-i-in-loop-i-2) →
    Skips c.args.haystack.now c.args.pattern.now c.args.from c.shifted-i-in-loop-i-2.result × (c.shifted-i-in-loop-i.result ≤ c.shifted-i-in-loop-i-2.result)
    × (c.shifted-i-in-loop-i-2.result ≤ c.shifted-i-in-loop-i.result + length c.args.pattern.now)
three c =
    let o = pass_more c.requires (omega arith) (c.shifted-i.ensures.value, c.shifted-i.ensures.byte) c.loop-i.invariant in
    let t = pass_more c.requires (omega (arith, o.2)) (c.shifted-i-in-loop-i.ensures.value, c.shifted-i-in-loop-i.ensures.byte) o.0 in
    pass_more c.requires (omega (arith, o.2, t.2)) (c.shifted-i-in-loop-i-2.ensures.value, c.shifted-i-in-loop-i-2.ensures.byte) t.0

pub returns-then-haystack-i : goal.returns-then-haystack-i
returns-then-haystack-i c = (three (goal.at.returns-then-haystack-i c).After-shifted-i-in-loop-i-2).0

pub loop-i-preserved : goal.loop-i-preserved
loop-i-preserved c = (three (goal.at.loop-i-preserved c).After-shifted-i-in-loop-i-2).0
