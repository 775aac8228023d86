-- The two ways out of the call that writes the leaves of a table: a check refused it, or its work is done and flags and stack are cleared.
-- Assumes nothing.
use Rattle.std.specs.Prelude.{Err, Ok}
use Prim.Native.Nat.{ℕ, ◌≤◌}
use mathlib.Core.Path.{◌≡◌, refl, ap, ◌∙◌}
use mathlib.Core.List.{List}
use borrow.Author.Tests.{not-false}
use lib.ListN.{length, replicate}
use Rattle.page.proofs.Laws.{size_range}
use Rattle.page.specs.Page.{size_fits}
use Rattle.sheet.proofs.Filling.{list_refused, list_filled}
use Rattle.sheet.proofs.Laws.{none_holds}
use Rattle.sheet.specs.Filled.{filled_by, list_outcome}
use Rattle.sheet.specs.Refusal.{first_held}
use Rattle.sheet.specs.declared.refusal.Refusal.{Refusal}
use Rattle.walk.specs.Collect.{walked_number, walked_written, walk_checks, LeavesAsked, collect_walk, collect_walking, collect_filling, collect_answer, collect_number, collect_written, collect_leaves, collect_cleared, LeavesOutcome, leaves_outcome, CollectsLeaves}
use Rattle.walk.specs.Inner.{Collected}
use Rattle.walk.specs.declared.walk.Walked.{Walked}
use Rattle.walk.proofs.Laws.{numbers_are}

-- what passed has one of the page sizes
pub passed_size : (len size : ℕ) → first_held (walk_checks len size) ≡ (Ok tt) → (512 ≤ size) × (size ≤ 65536)
passed_size len size e = size_range size (not-false (size_fits size) (none_holds (walk_checks len size) e).1.0)

module _ (a : LeavesAsked) where
  promised : (x : LeavesOutcome) → x.answer ≡ collect_answer a → x.leaves ≡ collect_leaves a → x.flags ≡ collect_cleared a a.flags
      → x.stack ≡ collect_cleared a a.stack → CollectsLeaves a x
  unfolding collect_answer collect_number collect_written
  promised x e leaves flags stack =
      let n = numbers_are (collect_walking a) in
      record { answer = e; number = ap walked_number e ∙ n.0; written = ap walked_written e ∙ n.1; leaves = leaves; flags = flags; stack = stack }

  pub call_refused : (r : Refusal) → first_held (walk_checks (length a.db) a.size) ≡ Err r
      → CollectsLeaves a (leaves_outcome (Err r) a.flags a.stack a.leaves)
  unfolding collect_answer collect_leaves collect_cleared
  call_refused r e =
      promised (leaves_outcome (Err r) a.flags a.stack a.leaves) (simp e) (list_refused (collect_filling a) r e).list (simp e) (simp e)

  pub call_passed : (r : Walked) (leaves : List ℕ) → first_held (walk_checks (length a.db) a.size) ≡ (Ok tt)
      → Collected (collect_walking a).pages (length a.flags) (collect_walk a) a.leaves r leaves
      → CollectsLeaves a (leaves_outcome (Ok r) (replicate (length a.flags) 0) (replicate (length a.stack) 0) leaves)
  unfolding collect_answer collect_leaves collect_cleared
  call_passed r leaves e x =
      let filled = list_filled (collect_filling a) (list_outcome (Ok (filled_by (length (collect_filling a).things) (length a.leaves))) leaves) e refl x.leaves_are in
      promised (leaves_outcome (Ok r) (replicate (length a.flags) 0) (replicate (length a.stack) 0) leaves) (rw (e, x.answer)) filled.list (simp e) (simp e)
