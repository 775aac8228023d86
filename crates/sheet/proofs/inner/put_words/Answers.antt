-- `sheet::inner::put_words` meets its contract.
-- Assumes nothing.
use mathlib.Core.Path.{◌≡◌, ◌∙◌}
use native.Mathlib.Nat.{add-zero}
use native.Mathlib.Omega.{arith}
use lib.ListN.{length}
use lib.Seq.{drop-length}
use Rattle.sheet.proofs.Laws.{sets_next}
use Rattle.sheet.proofs.inner.put_words.Goals as goal

pub loop-i-init : goal.loop-i-init
loop-i-init c = rw add-zero

pub loop-i-preserved : goal.loop-i-preserved
loop-i-preserved c = sets_next _ _ _ _ c.loop-i-test.true ∙ c.loop-i.invariant

pub returns : goal.returns
returns c =
    let e : c.loop-i.i ≡ length c.args.words.now = omega arith in
    rw (e, drop-length) at c.loop-i.invariant
