-- `words::inner::pieces::piece_end` meets its contract: the run up to the comma, counted from the place on.
-- Assumes nothing.
use Prim.Native.Nat.{◌≤◌}
use native.Mathlib.Omega.{arith}
use lib.ListN.{length, drop, length-drop}
use Rattle.words.proofs.Laws.{part_from, piece_ends}
use Rattle.words.proofs.inner.pieces.piece_end.Goals as goal
use Rattle.words.proofs.inner.pieces.piece_end.Goals.{After-long_run}

inside : (c : After-long_run) →
    c.long_run.result ≤ length (drop c.args.at c.args.s.now)
inside c = rw part_from at c.long_run.ensures.within

pub overflow_add-result : goal.overflow_add-result
overflow_add-result c = omega (arith, inside c, length-drop c.args.at c.args.s.now)

pub returns : goal.returns
returns c =
    let run = rw part_from at c.long_run.ensures.value in
    record { value = rw run; piece = piece_ends _ _ _ c.requires run (inside c) }
