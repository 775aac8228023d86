-- `cells::inner::rebuilt::carve_rebuilt` meets its contract: what the loop has carved are the starts so far (`Starting`).
-- Assumes nothing.
use Rattle.std.specs.Prelude.{◌+◌, length}
use native.Mathlib.Nat.{le_trans}
use native.Mathlib.Omega.{arith}
use Rattle.cells.proofs.Along.{along_ready}
use Rattle.cells.proofs.Skipping.{rows_fit}
use Rattle.cells.proofs.Starting.{Starting, passed_is, starting_start, starting_passed, starting_cell, starting_row, starting_full, starting_end}
use Rattle.hit.specs.Inner.{Ready}
use Rattle.starts.proofs.Laws.{cell_below}
use Rattle.cells.proofs.inner.rebuilt.carve_rebuilt.Goals as goal
use Rattle.cells.proofs.inner.rebuilt.carve_rebuilt.Goals.{At-loop-how, After-next_start-at, then-eq, else-eq+in_ok-carve_start}

-- what is ready at the call is ready in each turn
ready : (c : At-loop-how) → Ready (c.args.o + length c.args.payload.now) (length c.args.hints.now) c.args.spot c.loop-how.sheet
ready c = along_ready _ _ _ _ _ _ _ c.loop-how.invariant.2.along c.requires.ready

-- the starts up to the next are passed over
there : (c : After-next_start-at)
    → Starting c.args.how c.args.payload.now c.args.hints.now c.args.spot c.args.o c.starts_of-starts.result c.args.sheet.now c.loop-how.sheet
    c.next_start-at.result c.loop-how.k
there c =
    let fits = (along_ready _ _ _ _ _ _ _ c.loop-how.invariant.2.along c.requires.ready).space.fits in
    starting_passed _ _ _ _ _ _ _ _ _ fits _ _ (rw c.next_cell-next.ensures at c.next_start-at.ensures) c.loop-how.invariant.2

pub loop-how-init : goal.loop-how-init
loop-how-init c = (c.starts_of-starts.ensures, omega arith, starting_start _ _ _ _ _ _ _ _ c.requires.ready.space.fits c.requires.standing)

pub next_cell-next-requires : goal.next_cell-next-requires
next_cell-next-requires c =
    let r = ready (goal.at.next_cell-next-requires c).At-loop-how in
    rows_fit _ (length c.loop-how.sheet.cols.now) c.loop-how.sheet.width _
    (le_trans (le_trans c.loop-how.invariant.2.behind r.space.fits) r.space.room_most)

pub returns-then-at-starts : goal.returns-then-at-starts
returns-then-at-starts c =
    rw c.loop-how.invariant.0 at
    (starting_end _ _ _ _ _ _ _ _ _ _ (there (goal.at.returns-then-at-starts c).After-next_start-at) c.if-at-starts.true)

pub overflow_add-k : goal.overflow_add-k
overflow_add-k c =
    let passed = passed_is _ _ _ c.args.spot.base c.args.o _ _ _ _ c.next_cell-next.ensures c.eq.ensures c.if-eq.true in
    omega (arith, cell_below _ _ _ _ passed)

pub carve_start-requires-clause-ready : goal.carve_start-requires-clause-ready
carve_start-requires-clause-ready c = ready (goal.at.carve_start-requires-clause-ready c).At-loop-how

pub returns-in_err-carve_start : goal.returns-in_err-carve_start
returns-in_err-carve_start c =
    let passed = passed_is _ _ _ c.args.spot.base c.args.o _ _ _ _ c.next_cell-next.ensures c.eq.ensures c.if-eq.false in
    rw c.from_residual.ensures
    (rw c.loop-how.invariant.0 at
    (starting_full _ _ _ _ _ _ _ _ _ _ (there (goal.at.returns-in_err-carve_start c).After-next_start-at) c.if-at-starts.false passed _
    c.in_err-carve_start.ensures))

pub loop-how-preserved : goal.loop-how-preserved
loop-how-preserved c =
    let here = goal.at.loop-how-preserved c in
    let on = there here.After-next_start-at in
    elim c.if-eq.branch [
      | then-eq w ↦
          let passed = passed_is _ _ _ c.args.spot.base c.args.o _ _ _ _ c.next_cell-next.ensures c.eq.ensures w.if-eq.true in (
            c.loop-how.invariant.0,
            omega (arith, c.if-at-starts.false),
            rw (w.sheet-is, w.k-is) (starting_cell _ _ _ _ _ _ _ _ _ _ on c.if-at-starts.false passed (ready here.At-loop-how).space.fits),
          )
      | else-eq+in_ok-carve_start w ↦
          let passed = passed_is _ _ _ c.args.spot.base c.args.o _ _ _ _ c.next_cell-next.ensures c.eq.ensures w.if-eq.false in (
            c.loop-how.invariant.0,
            omega (arith, c.if-at-starts.false),
            rw (w.sheet-is, w.k-is) (starting_row _ _ _ _ _ _ _ _ _ _ on c.if-at-starts.false passed _ w.in_ok-carve_start.ensures),
          )
    ]
