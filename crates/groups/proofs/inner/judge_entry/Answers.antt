-- `groups::inner::judge_entry` meets its contract.
-- Assumes nothing.
use mathlib.Core.Path.{◌≡◌, sym, ◌∙◌}
use mathlib.Core.Bool.{false}
use native.Mathlib.Omega.{arith}
use borrow.Author.Tests.{lt-ltb, le-ltb, eq-eqb}
use Rattle.record.specs.Entry.{read_entry}
use Rattle.groups.specs.Rows.{is_refused}
use Rattle.groups.proofs.Laws.{refused_bad}
use Rattle.groups.proofs.inner.judge_entry.Goals as goal
use Rattle.groups.proofs.inner.judge_entry.Goals.{Else-is_bad}

-- reading is not refused
good : (c : Else-is_bad) → is_refused (read_entry c.args.e c.args.bytes.now) ≡ false
good c = refused_bad _ _ ∙ sym c.is_bad.ensures ∙ c.if-is_bad.false

pub returns-then-is_bad : goal.returns-then-is_bad
returns-then-is_bad c = rw (refused_bad c.args.bytes.now c.args.e ∙ sym c.is_bad.ensures ∙ c.if-is_bad.true)

pub returns-then-e-ge-UNUSED : goal.returns-then-e-ge-UNUSED
returns-then-e-ge-UNUSED c = simp (good (goal.at.returns-then-e-ge-UNUSED c).Else-is_bad, le-ltb _ _ c.if-e-ge-UNUSED.true)

pub returns-then-n-i : goal.returns-then-n-i
returns-then-n-i c =
    simp (good (goal.at.returns-then-n-i c).Else-is_bad, lt-ltb _ _ c.if-e-ge-UNUSED.false, eq-eqb c.args.n c.args.i c.if-n-i.true)
