-- `Entry::view` meets its contract: the bytes of a value that was read lie in the slice.
-- Assumes nothing.
use Rattle.std.specs.Prelude.{Some}
use Prim.Native.Nat.{◌+◌, ◌-◌, ◌≤◌}
use mathlib.Core.Path.{◌≡◌, sym, ◌∙◌}
use native.Mathlib.Omega.{arith}
use lib.ListN.{length}
use Rattle.record.specs.Entry.{read_entry, entry_bytes}
use Rattle.record.proofs.Bodies.{entry_inside}
use Rattle.record.proofs.entry.Entry.view.Goals as goal
use Rattle.record.proofs.entry.Entry.view.Goals.{After-len, In-Some}

-- the value that was read
got : (c : In-Some) →
    read_entry c.args.self c.args.bytes.now ≡ Some c.in-Some.value
got c = sym c.read.ensures.value ∙ c.in-Some.is

-- its bytes lie in the slice
within : (c : After-len) → c.start-start.result + c.len.result ≤ length c.args.bytes.now
within c =
    rw (c.start-start.ensures, c.len.ensures) (entry_inside _ c.args.bytes.now c.in-Some.value (sym c.read.ensures.value ∙ c.in-Some.is))

pub returns-in_default : goal.returns-in_default
unfolding entry_bytes
returns-in_default c = rw (sym c.read.ensures.value ∙ c.in_default.is)

pub overflow_add-end : goal.overflow_add-end
overflow_add-end c = omega (arith, within c)

pub slice_bounds-result-end-2 : goal.slice_bounds-result-end-2
slice_bounds-result-end-2 c = within c

pub returns : goal.returns
unfolding entry_bytes
returns c =
    let e : c.start-start.result + c.len.result - c.start-start.result ≡ c.len.result = omega arith in
    rw (e, c.start-start.ensures, c.len.ensures, got (goal.at.returns c).In-Some)
