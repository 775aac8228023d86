-- `gap::inner::region::carve_region` meets its contract: what the loop has carved, with what is left of the run, are the hits of the whole run (`Scanning`).
-- Assumes nothing.
use Rattle.std.specs.Prelude.{None}
use Prim.Native.Nat.{◌+◌, ◌≤◌, ◌<◌}
use mathlib.Core.Path.{◌≡◌, ◌∙◌}
use native.Mathlib.Omega.{arith}
use lib.ListN.{length}
use Rattle.attempt.proofs.Laws.{hit_takes}
use Rattle.cells.proofs.Along.{along_ready}
use Rattle.filter.proofs.Laws.{no_run}
use Rattle.filter.specs.Inner.{RowIs}
use Rattle.gap.proofs.Regions.{Scanning, scanning_start, scanning_passed, scanning_through, scanning_found, scanning_full}
use Rattle.hit.proofs.Laws.{find_laid}
use Rattle.hit.specs.Hit.{intra_page}
use Rattle.sheet.specs.Confidence.{share}
use Rattle.sheet.specs.Limits.{largest_region}
use Rattle.gap.proofs.inner.region.carve_region.Goals as goal
use Rattle.gap.proofs.inner.region.carve_region.Goals.{After-intra_page-origin, In-Some}

-- a row comes,
found : (c : In-Some) →
    RowIs c.args.bytes.now c.args.hints.now c.loop-next.o c.last_of-last.result c.in-Some.next.at c.in-Some.next.find c.next_row.result.read c.in-Some.next.run
found c = rw c.in-Some.is at c.next_row.ensures

-- which lies in the region,
taken : (c : In-Some) →
    (c.in-Some.next.at + 2 < length c.args.bytes.now) × (c.loop-next.o ≤ c.in-Some.next.at) × (2 ≤ c.in-Some.next.find.consumed) × (c.in-Some.next.at + c.in-Some.next.find.consumed ≤ length c.args.bytes.now)
    × (length c.args.bytes.now ≤ largest_region)
taken c =
    let f = found c in
    let takes = hit_takes _ _ _ _ f.found.hits in (
      omega (arith, f.below, c.last_of-last.ensures),
      omega (arith, f.misses.to_is),
      takes.0,
      takes.1,
      omega (arith, c.requires.inside),
    )

-- and all before it is passed over
there : (c : In-Some) → Scanning c.args.bytes.now c.args.from c.args.hints.now c.args.spot c.args.sheet.now c.loop-next.sheet c.in-Some.next.at
there c = scanning_passed _ _ _ _ _ _ _ _ _ c.last_of-last.ensures c.loop-next.invariant.scanning _ (omega (arith, (found c).below)) (found c).misses

pub loop-next-init : goal.loop-next-init
loop-next-init c = record { scanning = scanning_start _ _ _ _ _ c.requires.space.fits; high = no_run _ }

pub next_row-requires : goal.next_row-requires
next_row-requires c =
    record { last_in_bounds = (omega (arith, c.last_of-last.ensures), omega (arith, c.requires.inside), c.requires.few); high = c.loop-next.invariant.high }

-- where the row comes from
origin_is : (c : After-intra_page-origin) →
    c.intra_page-origin.result ≡ intra_page None (share c.in-Some.next.find.matched (length c.args.hints.now))
origin_is c = c.intra_page-origin.ensures ∙ rw c.suited_share-confidence.ensures

pub add_found-requires : goal.add_found-requires
add_found-requires c =
    record {
      laid = find_laid _ _ _ _ _ _ (found (goal.at.add_found-requires c).In-Some).found;
      ready = along_ready _ _ _ _ _ _ _ c.loop-next.invariant.scanning.along c.requires;
    }

pub returns-in_err-add_found : goal.returns-in_err-add_found
returns-in_err-add_found c =
    let p = goal.at.returns-in_err-add_found c in
    rw c.from_residual.ensures
    (scanning_full _ _ _ _ _ _ _ (there p.In-Some) (taken p.In-Some).0 _ (found p.In-Some).found.hits _
    (rw (c.in_err-add_found.was, origin_is p.After-intra_page-origin) at c.add_found.ensures))

pub overflow_add-o : goal.overflow_add-o
overflow_add-o c = let t = taken (goal.at.overflow_add-o c).In-Some in omega arith

pub loop-next-smaller : goal.loop-next-smaller
loop-next-smaller c = let t = taken (goal.at.loop-next-smaller c).In-Some in omega arith

pub loop-next-preserved : goal.loop-next-preserved
loop-next-preserved c =
    let p = goal.at.loop-next-preserved c in
    record {
      scanning =
          scanning_found _ _ _ _ _ _ _ (there p.In-Some) (taken p.In-Some).0 _ (found p.In-Some).found.hits _
          (rw (c.in_ok-add_found.was, origin_is p.After-intra_page-origin) at c.add_found.ensures);
      high = (found p.In-Some).run_is;
    }

pub returns : goal.returns
returns c = scanning_through _ _ _ _ _ _ _ _ _ c.last_of-last.ensures c.loop-next.invariant.scanning (rw c.in_default.is at c.next_row.ensures)
