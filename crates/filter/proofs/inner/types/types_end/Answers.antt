-- `filter::inner::types::types_end` meets its contract: reading on from `at` ends where reading the header's types does (`Ends`).
-- Assumes nothing.
use Prim.Native.Nat.{◌+◌}
use mathlib.Core.Path.{◌≡◌, sym, ◌∙◌}
use native.Mathlib.Omega.{arith}
use borrow.Author.Rules.{rules}
use Rattle.filter.proofs.Headers.{ends_at_run}
use Rattle.filter.proofs.Runs.{run_varint}
use Rattle.attempt.proofs.Skipping.{skip_past, ends_step, ends_end}
use Rattle.record.specs.Places.{stop_of}
use Rattle.record.specs.Varint.{varint_at}
use Rattle.filter.proofs.inner.types.types_end.Goals as goal
use Rattle.filter.proofs.inner.types.types_end.Goals.{After-varint_end-at}

-- a varint that starts at `at` ends there
ends : (c : After-varint_end-at) →
    c.varint_end-at.result ≡ stop_of c.args.bytes.now (varint_at c.args.bytes.now c.loop-at.at)
ends c =
    c.varint_end-at.ensures ∙ sym (run_varint _ _ c.requires.holds.is _ c.loop-at.invariant.0 (omega (arith, c.loop-at-test.true, c.requires.holds.to_there)))

pub loop-at-init : goal.loop-at-init
loop-at-init c = (search rules, ends_at_run _ _ _ c.requires.header_there.1 c.requires.header_there.0 _ c.requires.header_there.2 c.requires.holds)

pub varint_end-at-requires : goal.varint_end-at-requires
varint_end-at-requires c =
    (omega (arith, c.loop-at-test.true, c.requires.holds.to_there), c.requires.holds.is.inside)

pub loop-at-smaller : goal.loop-at-smaller
loop-at-smaller c =
    omega (arith, ends c, skip_past c.args.bytes.now (c.args.o + c.args.head) c.requires.header_there.1 c.loop-at.at c.loop-at-test.true)

pub loop-at-preserved : goal.loop-at-preserved
loop-at-preserved c =
    let past = skip_past c.args.bytes.now (c.args.o + c.args.head) c.requires.header_there.1 c.loop-at.at c.loop-at-test.true in
    (omega (arith, ends c, c.loop-at.invariant.0), rw (ends c) (ends_step _ _ c.requires.header_there.1 _ _ c.loop-at-test.true c.loop-at.invariant.1))

pub returns : goal.returns
returns c = ends_end _ _ c.requires.header_there.1 _ _ c.loop-at-test.false c.loop-at.invariant.1
