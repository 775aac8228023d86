-- `digits::inner::copy` meets its contract: all bytes written over as many are these bytes.
-- Assumes nothing.
use Rattle.std.proofs.Common.{◌≡◌, ◌+◌, ◌∙◌, length, arith}
use Rattle.std.proofs.lemmas.List.Edits.{sets-eq}
use mathlib.Core.List.{append-nil}
use lib.Seq.{drop-length}
use Rattle.digits.proofs.inner.copy.Goals as goal

pub returns : goal.returns
returns c =
    let from = c.args.from.now in
    let to = c.args.to.now in
    let all : c.loop-i.i ≡ length from = omega (arith, c.loop-i-test.false, c.loop-i.auto.i-end) in
    let over : 0 + length from ≡ length to = omega (arith, c.requires) in
    (rw (all, drop-length) at c.loop-i.invariant.rest) ∙ sets-eq from to 0 (omega (arith, c.requires)) ∙ rw (over, drop-length, append-nil)
