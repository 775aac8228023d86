-- `learn::learn::integer_type` meets its contract: of v = -1 - n the code takes the type of n.
-- Assumes nothing.
use mir.Facts.{Fits-nat_abs}
use Rattle.record.proofs.Laws.{Below, below_zero, From, from_zero}
use Rattle.learn.specs.Types.{width_type, integer_type}
use borrow.Author.Tests.{lt-ltb, le-ltb}
use Rattle.learn.proofs.learn.integer_type.Goals as goal
use Rattle.learn.proofs.learn.integer_type.Goals.{Else-v-lt0, Then-v-lt0}

below : (c : Then-v-lt0) → Below c.args.v
below c = below_zero c.ranges.v c.if-v-lt0.true

from : (c : Else-v-lt0) → From c.args.v
from c = from_zero c.ranges.v c.if-v-lt0.false

pub overflow_sub-v : goal.overflow_sub-v
overflow_sub-v c = let b = below c in rw b.made b.fits

pub overflow_cast-v : goal.overflow_cast-v
overflow_cast-v c = let b = below c in rw b.kept (tt, Fits-nat_abs tt b.fits)

pub returns-then-v-lt0 : goal.returns-then-v-lt0
unfolding integer_type width_type
returns-then-v-lt0 c = let b = below (goal.at.returns-then-v-lt0 c).Then-v-lt0 in rw b.is (rw b.kept at c.width_type.ensures)

pub overflow_cast-n : goal.overflow_cast-n
overflow_cast-n c = let z = from c in rw z.kept (tt, Fits-nat_abs tt z.fits)

pub returns-then-n-lt2 : goal.returns-then-n-lt2
unfolding integer_type
returns-then-n-lt2 c = let z = from (goal.at.returns-then-n-lt2 c).Else-v-lt0 in rw z.is (simp (lt-ltb _ _ (rw z.kept at c.if-n-lt2.true)))

pub returns-else-n-lt2 : goal.returns-else-n-lt2
unfolding integer_type
returns-else-n-lt2 c = let z = from (goal.at.returns-else-n-lt2 c).Else-v-lt0 in rw z.is (simp (le-ltb _ _ (rw z.kept at c.if-n-lt2.false)) (rw z.kept at c.width_type-else-n-lt2.ensures))
