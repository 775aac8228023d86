-- `unalloc::unalloc::try_parse_record` meets its contract: each way out is a law of `proofs/Attempting.antt`.
-- Assumes nothing.
use Rattle.std.specs.Prelude.{Some}
use Prim.Native.Nat.{◌≤◌}
use mathlib.Core.Path.{◌≡◌, sym, ◌∙◌}
use native.Mathlib.Omega.{arith}
use Rattle.record.proofs.Laws.{varint_lies}
use Rattle.record.specs.Varint.{varint_at}
use Rattle.unalloc.proofs.Attempting.{attempt_short, attempt_bad, attempt_fails, attempt_none, attempt_hit, few_match}
use Rattle.unalloc.proofs.unalloc.try_parse_record.Goals as goal
use Rattle.unalloc.proofs.unalloc.try_parse_record.Goals.{In_ok-h, then-h-gt-MOST_HEADER-via-then-h-gt-MOST_HEADER, then-h-gt-MOST_HEADER-via-else-h-gt-MOST_HEADER+then-h-region, then-h-gt-MOST_HEADER-via-else-h-gt-MOST_HEADER+else-h-region+then-h-from}

pub returns-in_err-h : goal.returns-in_err-h
returns-in_err-h c = rw c.from_residual.ensures (attempt_short _ _ _ (rw c.new.ensures at (sym c.header_length.ensures ∙ c.in_err-h.was)))

-- the header's length that was read, and where it ends
read : (c : In_ok-h) → varint_at c.args.region.now c.args.o ≡ Some (c.in_ok-h.h, c.in_ok-h.next)
read c = rw c.new.ensures at (sym c.header_length.ensures ∙ c.in_ok-h.was)

past : (c : In_ok-h) → c.args.o ≤ c.in_ok-h.next.at
past c = omega (arith, (varint_lies _ _ _ _ (read c)).past)

pub overflow_sub-from : goal.overflow_sub-from
overflow_sub-from c = past (goal.at.overflow_sub-from c).In_ok-h

pub returns-then-h-gt-MOST_HEADER : goal.returns-then-h-gt-MOST_HEADER
returns-then-h-gt-MOST_HEADER c =
    let e = read (goal.at.returns-then-h-gt-MOST_HEADER c).In_ok-h in
    elim c.then-h-gt-MOST_HEADER.branch [
      | then-h-gt-MOST_HEADER-via-then-h-gt-MOST_HEADER w ↦ attempt_bad _ _ _ _ _ e (λ p q r. omega (arith, w.if-h-gt-MOST_HEADER.true))
      | then-h-gt-MOST_HEADER-via-else-h-gt-MOST_HEADER+then-h-region w ↦ attempt_bad _ _ _ _ _ e (λ p q r. omega (arith, w.if-h-region.true))
      | then-h-gt-MOST_HEADER-via-else-h-gt-MOST_HEADER+else-h-region+then-h-from w ↦ attempt_bad _ _ _ _ _ e (λ p q r. omega (arith, w.if-h-from.true))
    ]

pub returns-in_err-reading : goal.returns-in_err-reading
returns-in_err-reading c =
    rw c.from_residual-in_err-reading.ensures
    (attempt_fails _ _ _ _ _ (read (goal.at.returns-in_err-reading c).In_ok-h) c.if-h-gt-MOST_HEADER.false c.if-h-from.false c.if-h-region.false (rw c.in_err-reading.was at c.read_and_match.ensures))

pub returns-then-reading-eq0 : goal.returns-then-reading-eq0
returns-then-reading-eq0 c =
    attempt_none _ _ _ _ _ (read (goal.at.returns-then-reading-eq0 c).In_ok-h) c.if-h-gt-MOST_HEADER.false c.if-h-from.false c.if-h-region.false _ _ _ (rw c.in_ok-reading.was at c.read_and_match.ensures) c.if-reading-eq0.true

pub learned-requires : goal.learned-requires
learned-requires c =
    let few = few_match _ _ _ _ _ (read (goal.at.learned-requires c).In_ok-h) c.if-h-gt-MOST_HEADER.false c.if-h-from.false c.if-h-region.false _ _ _ (rw c.in_ok-reading.was at c.read_and_match.ensures) in
    (omega (arith, few, c.requires.types_len_bound.1), c.requires.types_len_bound.0)

pub returns : goal.returns
returns c =
    rw c.learned.ensures
    (attempt_hit _ _ _ _ _ (read (goal.at.returns c).In_ok-h) c.if-h-gt-MOST_HEADER.false c.if-h-from.false c.if-h-region.false _ _ _ (rw c.in_ok-reading.was at c.read_and_match.ensures) (omega (arith, c.if-reading-eq0.false)))
