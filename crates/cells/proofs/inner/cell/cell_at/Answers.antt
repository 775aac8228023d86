-- `cells::inner::cell::cell_at` meets its contract: each way out is a law of `proofs/Looking.antt`.
-- Assumes nothing.
use Rattle.std.specs.Prelude.{Some, ◌≡◌, ◌<◌}
use mathlib.Core.Path.{sym, ◌∙◌}
use native.Mathlib.Omega.{arith}
use Rattle.cells.proofs.Looking.{cell_short, cell_empty, cell_far, cell_no_id, cell_long, cell_miss, cell_found, missed, told_hit}
use Rattle.record.proofs.Laws.{varint_lies}
use Rattle.record.specs.Varint.{varint_at}
use Rattle.cells.proofs.inner.cell.cell_at.Goals as goal
use Rattle.cells.proofs.inner.cell.cell_at.Goals.{In_ok-len, In_ok-id, then-len-eq0-via-then-len-eq0, then-len-eq0-via-else-len-eq0+then-len-payload}

pub returns-in_err-len : goal.returns-in_err-len
returns-in_err-len c = rw c.from_residual.ensures (cell_short _ _ _ (rw c.new.ensures at (sym c.often_short.ensures ∙ c.in_err-len.was)))

-- the length that was read
length_read : (c : In_ok-len) → varint_at c.args.payload.now c.args.pos ≡ Some (c.in_ok-len.len, c.in_ok-len.next)
length_read c = rw c.new.ensures at (sym c.often_short.ensures ∙ c.in_ok-len.was)

pub overflow_sub-payload : goal.overflow_sub-payload
overflow_sub-payload c = (varint_lies _ _ _ _ (length_read (goal.at.overflow_sub-payload c).In_ok-len)).inside

pub returns-then-len-eq0 : goal.returns-then-len-eq0
returns-then-len-eq0 c =
    let e = length_read (goal.at.returns-then-len-eq0 c).In_ok-len in
    elim c.then-len-eq0.branch [
      | then-len-eq0-via-then-len-eq0 w ↦ cell_empty _ _ _ _ _ e w.if-len-eq0.true
      | then-len-eq0-via-else-len-eq0+then-len-payload w ↦ cell_far _ _ _ _ _ e (omega (arith, w.if-len-eq0.false)) w.if-len-payload.true
    ]

pub returns-in_err-id : goal.returns-in_err-id
returns-in_err-id c =
    let e = length_read (goal.at.returns-in_err-id c).In_ok-len in
    rw c.from_residual-in_err-id.ensures (cell_no_id _ _ _ _ _ e (omega (arith, c.if-len-eq0.false)) (sym c.often_short-2.ensures ∙ c.in_err-id.was))

-- the row id that was read
id_read : (c : In_ok-id) → varint_at c.args.payload.now c.in_ok-len.next.at ≡ Some (c.in_ok-id.id, c.in_ok-id.behind)
id_read c = sym c.often_short-2.ensures ∙ c.in_ok-id.was

pub overflow_sub-payload-2 : goal.overflow_sub-payload-2
overflow_sub-payload-2 c = (varint_lies _ _ _ _ (id_read (goal.at.overflow_sub-payload-2 c).In_ok-id)).inside

pub returns-then-len-payload-2 : goal.returns-then-len-payload-2
returns-then-len-payload-2 c =
    let here = goal.at.returns-then-len-payload-2 c in
    cell_long _ _ _ _ _ (length_read here.In_ok-len) (omega (arith, c.if-len-eq0.false)) _ _ (id_read here.In_ok-id) c.if-len-payload-2.true

pub returns-in_err-find : goal.returns-in_err-find
returns-in_err-find c =
    let here = goal.at.returns-in_err-find c in
    rw c.from_residual-in_err-find.ensures
    (cell_miss _ _ _ _ _ (length_read here.In_ok-len) (omega (arith, c.if-len-eq0.false)) _ _ (id_read here.In_ok-id) c.if-len-payload-2.false
    (missed _ _ _ _ _ _ (sym c.ok.ensures.value ∙ c.in_err-find.was) c.attempt.ensures))

pub returns : goal.returns
returns c =
    let here = goal.at.returns c in
    cell_found _ _ _ _ _ (length_read here.In_ok-len) (omega (arith, c.if-len-eq0.false)) _ _ (id_read here.In_ok-id) c.if-len-payload-2.false _
    (told_hit _ _ _ _ _ _ _ (sym c.ok.ensures.value ∙ c.in_ok-find.was) c.attempt.ensures)
