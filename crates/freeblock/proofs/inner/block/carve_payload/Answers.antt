-- `freeblock::inner::block::carve_payload` meets its contract: no start has a row, or the row of the first is added.
-- Assumes nothing.
use Rattle.freeblock.specs.Inner.{StartIs}
use Rattle.freeblock.proofs.Blocks.{payload_none, payload_ready, payload_one}
use Rattle.hit.proofs.Laws.{part_is, find_laid}
use Rattle.freeblock.proofs.inner.block.carve_payload.Goals as goal
use Rattle.freeblock.proofs.inner.block.carve_payload.Goals.{In-Some}

pub returns-in_default : goal.returns-in_default
returns-in_default c = payload_none _ _ _ _ _ c.requires (rw c.in_default.is at c.first_start.ensures)

-- a start was found
started : (c : In-Some) → StartIs c.args.payload.now c.args.hints.now c.in-Some.v c.in-Some.find
started c = c.in-Some.ensures

pub add_found-requires : goal.add_found-requires
add_found-requires c =
    let is = started (goal.at.add_found-requires c).In-Some in
    rw (part_is c.args.payload.now c.in-Some.v) record { laid = find_laid _ _ _ _ _ _ is.found; ready = payload_ready _ _ _ _ _ c.requires _ _ is }

pub returns : goal.returns
returns c =
    let x = rw (part_is c.args.payload.now c.in-Some.v) at c.add_found.ensures in
    payload_one _ _ _ _ _ c.requires _ _ (started (goal.at.returns c).In-Some) _ _ _ (rw (c.freed.ensures, c.suited_share.ensures)) x
