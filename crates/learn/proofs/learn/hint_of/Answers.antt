-- `learn::learn::hint_of` meets its contract: the first n cells hold the types of the column.
-- Assumes nothing.
use mathlib.Core.Path.{sym, ap, ◌∙◌}
use native.Mathlib.Omega.{arith}
use lib.Seq.{length-take-le}
use Rattle.learn.specs.Learn.{hint_of}
use Rattle.learn.specs.Types.{commonest_of}
use Rattle.learn.proofs.Columns.{taken_most}
use Rattle.learn.proofs.learn.hint_of.Goals as goal

pub slice_bounds-commonest-end-2 : goal.slice_bounds-commonest-end-2
slice_bounds-commonest-end-2 c =
    sym (length-take-le _ _ (omega (arith, c.gather-n.ensures.small, c.gather-n.auto.kinds, c.requires.kinds_len)))

pub commonest-requires : goal.commonest-requires
commonest-requires c = record { kinds_len_bound = taken_most _ c.gather-n.ensures.small; tallied = c.requires.tallied }

pub returns : goal.returns
unfolding hint_of
returns c = record { value = c.commonest.ensures.value ∙ ap commonest_of c.gather-n.ensures.kinds_after; clear = c.commonest.ensures.clear }
