-- `scan::schema_sig::once` meets its contract: each way out is a law of `proofs/OneAttempt.antt`.
-- Assumes nothing.
use Prim.Native.Nat.{◌<◌}
use mathlib.Core.Path.{◌≡◌, sym, ◌∙◌}
use native.Mathlib.Nat.{zero-mul}
use native.Mathlib.Omega.{arith}
use Rattle.attempt.specs.Attempt.{attempt_at}
use Rattle.attempt.specs.Inner.{HitIs}
use Rattle.attempt.specs.Places.{attempt_places}
use Rattle.attempt.proofs.Laws.{attempt_beyond}
use Rattle.scan.proofs.OneAttempt.{once_missed, once_full, once_found}
use Rattle.sheet.proofs.Laws.{room_rows, room_cols}
use Rattle.scan.proofs.schema_sig.once.Goals as goal
use Rattle.scan.proofs.schema_sig.once.Goals.{In-Ok}

pub returns-then-o-bytes-clause-filled : goal.returns-then-o-bytes-clause-filled
returns-then-o-bytes-clause-filled c = once_missed _ _ _ _ _ _ (attempt_beyond _ _ _ (omega arith))

pub returns-in_default-clause-filled : goal.returns-in_default-clause-filled
returns-in_default-clause-filled c =
    let m = rw c.in_default.is at c.attempt.ensures in
    once_missed _ _ _ _ _ _ m.misses

-- what an attempt that found a row says
found : (c : In-Ok) →
    HitIs c.args.bytes.now c.args.hints.now c.args.o (attempt_at c.args.bytes.now c.args.hints.now c.args.o) (attempt_places c.args.bytes.now c.args.o) c.in-Ok.find
found c = rw c.in-Ok.is at c.attempt.ensures

pub returns-then-sheet-eq0-clause-filled : goal.returns-then-sheet-eq0-clause-filled
returns-then-sheet-eq0-clause-filled c =
    once_full _ _ _ _ _ _ _ (found (goal.at.returns-then-sheet-eq0-clause-filled c).In-Ok).hits (sym c.requires.empty.room_is ∙ c.if-sheet-eq0.true)

pub put_found-requires-clause-room_for : goal.put_found-requires-clause-room_for
put_found-requires-clause-room_for c =
    let n : 0 < c.args.sheet.now.room = omega (arith, c.if-sheet-eq0.false) in
    let e = c.requires.empty in
    record {
      row = rw e.n_is (room_rows _ _ _ _ (rw e.room_is at n));
      group = rw (e.n_is, e.width_is) (room_cols _ _ _ 0 (rw e.room_is at n));
    }

pub returns-clause-filled : goal.returns-clause-filled
returns-clause-filled c =
    let h = found (goal.at.returns-clause-filled c).In-Ok in
    let n : 0 < c.args.sheet.now.room = omega (arith, c.if-sheet-eq0.false) in
    let e = c.requires.empty in
    let w = c.put_found.ensures in
    once_found _ _ _ _ _ _ _ h.hits _ _ (rw e.room_is at n) (rw (e.n_is, e.width_is) at w.rows_are) (rw (e.n_is, e.width_is, zero-mul) at w.cols_are)
