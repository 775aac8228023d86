-- `readings::statement::read_hints` meets its contract: a piece gives one hint more, or none.
-- Assumes nothing.
use mathlib.Core.Path.{refl, sym, ◌∙◌}
use mathlib.Core.List.{[], ◌∷◌}
use native.Mathlib.Omega.{arith}
use lib.Seq.{set_out}
use Rattle.readings.proofs.StatementLaws.{hints_next, hints_none, written_none, written_more, written_all}
use Rattle.words.proofs.Laws.{pieces_start}
use Rattle.readings.proofs.statement.read_hints.Goals as goal
use Rattle.readings.proofs.statement.read_hints.Goals.{in-Some, then-n-hints, else-n-hints, in_default}

pub loop-at-init : goal.loop-at-init
loop-at-init c = record { same = refl; few = omega arith; written = rw pieces_start (written_none _ _) }

pub loop-at-preserved : goal.loop-at-preserved
loop-at-preserved c =
    let i = c.loop-at.invariant in
    let piece = c.piece_end-end.ensures.piece in
    let hints = rw (hints_next _ piece, ← c.piece_hint.ensures) at i.written in
    record {
      same = c.match-piece_hint.auto.hints ∙ i.same;
      few = elim c.match-piece_hint.branch [
        | in-Some w ↦ omega (arith, w.n-is, i.few, piece.from)
        | in_default w ↦ omega (arith, w.n-is, i.few, piece.from)
      ];
      written = elim c.match-piece_hint.branch [
        | in-Some w ↦ written_more (w.in-Some.hint ∷ []) (omega arith) w.n-is (w.hints-is ∙ elim w.if-n-hints.branch [
          | then-n-hints v ↦ v.hints-is
          | else-n-hints v ↦ v.hints-is ∙ sym (set_out _ _ _ v.if-n-hints.false)
        ]) (rw w.in-Some.is at hints)
        | in_default w ↦ written_more [] (omega arith) (omega (arith, w.n-is)) w.hints-is (rw w.in_default.is at hints)
      ];
    }

pub returns-clause-value : goal.returns-clause-value
returns-clause-value c = (written_all (hints_none _ _ _ c.loop-at-test.false) c.loop-at.invariant.written).0

pub returns-clause-list : goal.returns-clause-list
returns-clause-list c = (written_all (hints_none _ _ _ c.loop-at-test.false) c.loop-at.invariant.written).1
