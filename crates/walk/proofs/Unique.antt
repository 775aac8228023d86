-- A contract fixes what a call leaves: any two outcomes that it allows for the same arguments are equal. `Post` is the function's own postcondition.
-- Assumes nothing.
use mathlib.Core.Path.{◌≡◌, sym, ◌∙◌}
use Rattle.record.proofs.Unique.{Fixes, FixesSeen}
use Rattle.walk.specs.Collect.{LeavesAsked, LeavesOutcome, leaves_outcome, CollectsLeaves}
use Rattle.walk.proofs.walk.WalkedAnswer.number.Reads as number
use Rattle.walk.proofs.walk.WalkedAnswer.written.Reads as written
use Rattle.walk.proofs.walk.collect_leaf_pages.Reads as collect-leaf-pages

-- ---- the promises fix what is left: the answer, the flags, the stack and the leaves at exit
same_leaves : (x y : LeavesOutcome) → x.answer ≡ y.answer → x.flags ≡ y.flags → x.stack ≡ y.stack → x.leaves ≡ y.leaves → x ≡ y
same_leaves x y e f g h = rw (e, f, g, h)

pub leaves_fixed : (a : LeavesAsked) (x y : LeavesOutcome) → CollectsLeaves a x → CollectsLeaves a y → x ≡ y
leaves_fixed a x y p q =
    same_leaves x y (p.answer ∙ sym q.answer) (p.flags ∙ sym q.flags) (p.stack ∙ sym q.stack) (p.leaves ∙ sym q.leaves)

pub collect_leaf_pages_fixed : FixesSeen collect-leaf-pages.Post
    (λ k r s. leaves_outcome r s.1.1.1.0.now s.1.1.1.1.0.now s.1.1.1.1.1.0.now)
collect_leaf_pages_fixed k a x y s t p q = leaves_fixed _ _ _ p q

-- ---- the numbers of an answer
pub number_fixed : Fixes number.Post
number_fixed k a x y s t p q = p ∙ sym q

pub written_fixed : Fixes written.Post
written_fixed k a x y s t p q = p ∙ sym q
