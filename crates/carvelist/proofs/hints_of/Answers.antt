-- `carvelist::hints_of` meets its contract.
-- Assumes nothing.
use Prim.Native.Nat.{◌+◌, ◌-◌}
use mathlib.Core.Path.{◌≡◌}
use native.Mathlib.Omega.{arith}
use Rattle.listing.specs.Input.{count_bytes}
use Rattle.carvelist.proofs.hints_of.Goals as goal

pub returns : goal.returns
returns c =
    let e : count_bytes + c.count_of-end.result - count_bytes ≡ c.count_of-end.result = omega arith in
    rw (e, c.count_of-end.ensures)
