-- `modes::carver::try_carve_normal` meets its contract: each way out is a law of `proofs/Trying.antt`.
-- Assumes nothing.
use Rattle.std.specs.Prelude.{Some}
use Prim.Native.Nat.{◌≤◌}
use mathlib.Core.Path.{◌≡◌, sym, ◌∙◌}
use native.Mathlib.Omega.{arith}
use Rattle.modes.proofs.Trying.{normal_short, normal_bad, normal_cut, normal_none, normal_hit}
use Rattle.record.proofs.Laws.{varint_lies}
use Rattle.record.specs.Varint.{varint_at}
use Rattle.modes.proofs.carver.try_carve_normal.Goals as goal
use Rattle.modes.proofs.carver.try_carve_normal.Goals.{In_ok-h, then-h-bytes-via-then-h-bytes, then-h-bytes-via-else-h-bytes+then-h-from}

pub returns-in_err-h : goal.returns-in_err-h
returns-in_err-h c = rw c.from_residual.ensures (normal_short _ _ _ (rw c.new.ensures at (sym c.header_length.ensures ∙ c.in_err-h.was)))

-- the header's length that was read, and where it ends
read : (c : In_ok-h) → varint_at c.args.bytes.now c.args.o ≡ Some (c.in_ok-h.h, c.in_ok-h.next)
read c = rw c.new.ensures at (sym c.header_length.ensures ∙ c.in_ok-h.was)

past : (c : In_ok-h) → c.args.o ≤ c.in_ok-h.next.at
past c = omega (arith, (varint_lies _ _ _ _ (read c)).past)

pub overflow_sub-from : goal.overflow_sub-from
overflow_sub-from c = past (goal.at.overflow_sub-from c).In_ok-h

pub returns-then-h-bytes : goal.returns-then-h-bytes
returns-then-h-bytes c =
    let e = read (goal.at.returns-then-h-bytes c).In_ok-h in
    elim c.then-h-bytes.branch [
      | then-h-bytes-via-then-h-bytes w ↦ normal_bad _ _ _ _ _ e (λ own fits. omega (arith, w.if-h-bytes.true))
      | then-h-bytes-via-else-h-bytes+then-h-from w ↦ normal_bad _ _ _ _ _ e (λ own fits. omega (arith, w.if-h-from.true))
    ]

pub returns-in_err-types : goal.returns-in_err-types
returns-in_err-types c =
    rw c.from_residual-in_err-types.ensures
    (normal_cut _ _ _ _ _ (read (goal.at.returns-in_err-types c).In_ok-h) c.if-h-from.false c.if-h-bytes.false (rw c.in_err-types.was at c.read_types.ensures))

pub returns-then-types-eq0 : goal.returns-then-types-eq0
returns-then-types-eq0 c =
    normal_none _ _ _ _ _ (read (goal.at.returns-then-types-eq0 c).In_ok-h) c.if-h-from.false c.if-h-bytes.false _ _ _ (rw c.in_ok-types.was at c.read_types.ensures) c.if-types-eq0.true

pub returns : goal.returns
returns c =
    normal_hit _ _ _ _ _ (read (goal.at.returns c).In_ok-h) c.if-h-from.false c.if-h-bytes.false _ _ _ (rw c.in_ok-types.was at c.read_types.ensures) (omega (arith, c.if-types-eq0.false))
