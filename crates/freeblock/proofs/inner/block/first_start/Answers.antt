-- `freeblock::inner::block::first_start` meets its contract.
-- Assumes nothing.
use mathlib.Core.Path.{refl}
use native.Mathlib.Omega.{arith}
use Rattle.freeblock.proofs.Starting.{looks_start, looks_hit, looks_more, looks_end}
use Rattle.hit.proofs.Laws.{part_is}
use Rattle.freeblock.proofs.inner.block.first_start.Goals as goal

pub loop-v-init : goal.loop-v-init
loop-v-init c = looks_start _ _ _ refl

pub returns-in-Ok : goal.returns-in-Ok
returns-in-Ok c =
    let x = rw (part_is c.args.payload.now c.loop-v.v) at c.in-Ok.ensures in
    record {
      inside = omega (arith, c.starts_of-v-end.ensures);
      is = looks_hit _ _ _ _ c.loop-v.invariant _ (omega (arith, c.starts_of-v-end.ensures)) x.hits;
      found = x;
    }

pub loop-v-preserved : goal.loop-v-preserved
loop-v-preserved c =
    let x = rw (part_is c.args.payload.now c.loop-v.v) at c.in_default.ensures in
    looks_more _ _ _ _ c.loop-v.invariant (omega (arith, c.starts_of-v-end.ensures)) x.misses

pub returns : goal.returns
returns c = looks_end _ _ _ _ c.loop-v.invariant (omega (arith, c.starts_of-v-end.ensures))
