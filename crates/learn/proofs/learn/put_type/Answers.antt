-- `learn::learn::put_type` meets its contract.
-- Assumes nothing.
use Rattle.std.specs.Prelude.{Some}
use borrow.Author.Rules.{rules}
use mathlib.Core.Path.{◌≡◌, sym, ◌∙◌}
use native.Mathlib.Omega.{arith}
use Rattle.record.specs.Entry.{read_entry}
use Rattle.record.proofs.Bodies.{entry_inside}
use Rattle.learn.proofs.Columns.{given_unused, given_value, given_bad, put_none, put_one}
use Rattle.learn.proofs.learn.put_type.Goals as goal
use Rattle.learn.proofs.learn.put_type.Goals.{In-Some}

-- the value that was read
got : (c : In-Some) → read_entry c.args.e c.args.bytes.now ≡ Some c.in-Some.value
got c = sym c.read.ensures.value ∙ c.in-Some.is

pub returns-then-e-ge-UNUSED : goal.returns-then-e-ge-UNUSED
returns-then-e-ge-UNUSED c = put_none (given_unused _ _ c.if-e-ge-UNUSED.true)

pub returns-then-is_own_type : goal.returns-then-is_own_type
returns-then-is_own_type c = put_one (rw c.if-is_own_type.true at c.is_own_type.ensures) (search rules)

pub returns-in_default : goal.returns-in_default
returns-in_default c = put_none (given_bad _ _ c.if-e-ge-UNUSED.false (sym c.read.ensures.value ∙ c.in_default.is))

pub value_type-requires : goal.value_type-requires
value_type-requires c = omega (arith, entry_inside _ _ _ (got c))

pub returns : goal.returns
returns c = put_one (given_value _ _ c.if-e-ge-UNUSED.false (got (goal.at.returns c).In-Some) ∙ rw c.value_type.ensures) (search rules)
