-- `carvelist::region_of` meets its contract: the part up to the end is all that is left.
-- Assumes nothing.
use Prim.Native.Nat.{◌+◌, ◌-◌}
use native.Mathlib.Omega.{arith}
use lib.ListN.{length, drop, length-drop}
use lib.Seq.{take_all}
use Rattle.listing.specs.Input.{count_bytes, count_of}
use Rattle.carvelist.proofs.region_of.Goals as goal

pub returns : goal.returns
returns c =
    let start = count_bytes + count_of c.args.input.now in
    rw c.count_of-start.ensures (take_all (length c.args.input.now - start) (drop start c.args.input.now) (simp length-drop (omega arith)))
