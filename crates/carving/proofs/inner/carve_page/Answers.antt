-- `carving::inner::carve_page` meets its contract: each way of carving is the function of its own crate.
-- Assumes nothing.
use native.Mathlib.Nat.{zero-add}
use lib.ListN.{length}
use Rattle.carving.specs.Calls.{hits_by}
use Rattle.carving.proofs.inner.carve_page.Goals as goal

pub carve_page-requires-in-Gaps : goal.carve_page-requires-in-Gaps
carve_page-requires-in-Gaps c = record { hints_len_bound = rw c.in-Gaps.is at c.requires.hints_len_bound; ready = c.requires.ready }

pub carve_payload-requires : goal.carve_payload-requires
carve_payload-requires c = record { hints_len_bound = rw c.in-Payload.is at c.requires.hints_len_bound; ready = rw (zero-add (length c.args.page.now)) c.requires.ready }

pub returns-in-Freeblocks : goal.returns-in-Freeblocks
unfolding hits_by
returns-in-Freeblocks c = rw c.in-Freeblocks.is c.carve_page.ensures

pub returns-in-Gaps : goal.returns-in-Gaps
unfolding hits_by
returns-in-Gaps c = rw c.in-Gaps.is c.carve_page-in-Gaps.ensures

pub returns-in-Payload : goal.returns-in-Payload
unfolding hits_by
returns-in-Payload c = rw c.in-Payload.is c.carve_payload.ensures
