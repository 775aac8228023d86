-- `walk::inner::visit` meets its contract: a page that is 0, absent or seen changes nothing; any other is marked and looked at.
-- Assumes nothing.
use Prim.Native.Nat.{◌+◌, ◌-◌, ◌*◌, ◌/◌}
use mathlib.Core.Path.{◌≡◌, ◌∙◌}
use mathlib.Core.Bool.{false}
use native.Mathlib.Omega.{arith}
use lib.ListN.{length, take}
use lib.Seq.{take-set-lt}
use Rattle.walk.specs.Walk.{fresh}
use Rattle.walk.proofs.Popping.{fresh_zero, fresh_absent, fresh_seen, fresh_new, stale_goes, stale_marks, new_goes, new_marks}
use Rattle.walk.proofs.inner.visit.Goals as goal
use Rattle.walk.proofs.inner.visit.Goals.{Joined-then-p-eq0, then-p-eq0-via-then-p-eq0, then-p-eq0-via-else-p-eq0+then-p-db}

-- there is no such page
absent : (c : Joined-then-p-eq0) → fresh (length c.args.db.now) c.args.size (take (length c.args.db.now / c.args.size) c.args.flags.now) c.args.p ≡ false
absent c =
    elim c.then-p-eq0.branch [
      | then-p-eq0-via-then-p-eq0 w ↦ fresh_zero _ _ _ _ w.if-p-eq0.true
      | then-p-eq0-via-else-p-eq0+then-p-db w ↦ fresh_absent _ _ _ _ (omega (arith, w.if-p-eq0.false)) w.if-p-db.true
    ]

pub returns-then-p-eq0-clause-result_after : goal.returns-then-p-eq0-clause-result_after
returns-then-p-eq0-clause-result_after c = stale_goes _ _ _ _ _ _ (absent c)

pub returns-then-p-eq0-clause-flags : goal.returns-then-p-eq0-clause-flags
returns-then-p-eq0-clause-flags c = stale_marks _ _ _ _ (absent c)

pub returns-then-flags-i-ne0-clause-result_after : goal.returns-then-flags-i-ne0-clause-result_after
returns-then-flags-i-ne0-clause-result_after c =
    stale_goes _ _ _ _ _ _ (fresh_seen _ _ _ _ (omega (arith, c.if-p-eq0.false)) c.if-p-db.false c.if-flags-i-ne0.true)

pub returns-then-flags-i-ne0-clause-flags : goal.returns-then-flags-i-ne0-clause-flags
returns-then-flags-i-ne0-clause-flags c =
    stale_marks _ _ _ _ (fresh_seen _ _ _ _ (omega (arith, c.if-p-eq0.false)) c.if-p-db.false c.if-flags-i-ne0.true)

pub returns-clause-result_after : goal.returns-clause-result_after
returns-clause-result_after c =
    let s = (c.args.p - 1) * c.args.size in
    let e : (s + c.args.size) - s ≡ c.args.size = omega arith in
    rw (e, c.head_of.ensures.value) at c.expand.ensures.result_after
    ∙ new_goes _ _ _ _ _ _ (fresh_new _ _ c.args.flags.now c.args.p (omega (arith, c.if-p-eq0.false)) c.if-p-db.false c.if-flags-i-ne0.false)

pub returns-clause-flags : goal.returns-clause-flags
returns-clause-flags c =
    take-set-lt (length c.args.db.now / c.args.size) c.args.flags.now (c.args.p - 1) 1 (omega (arith, c.if-p-eq0.false, c.if-p-db.false))
    ∙ new_marks _ _ _ _ (fresh_new _ _ c.args.flags.now c.args.p (omega (arith, c.if-p-eq0.false)) c.if-p-db.false c.if-flags-i-ne0.false)
