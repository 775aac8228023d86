-- A contract fixes what a call leaves: any two outcomes that it allows for the same arguments are equal. `Post` is the function's own postcondition.
-- Assumes nothing.
use Rattle.std.specs.Prelude.{ℕ, ◌≡◌, refl, cond, eqb, Some, Result, Ok, Err}
use mathlib.Core.Path.{sym, ap, ◌∙◌}
use Rattle.record.proofs.Unique.{Fixes}
use Rattle.rebuild.proofs.rebuilding.Rebuilding.most_columns.Reads as most-columns
use Rattle.rebuild.proofs.ways.RebuildingTryFromU64.try_from.Reads as try-from
use Rattle.rebuild.proofs.ways.unnamed.Reads as unnamed
use Rattle.rebuild.specs.Ways.{Named}
use Rattle.rebuild.specs.declared.rebuilding.Rebuilding.{Rebuilding}
use Rattle.rebuild.specs.declared.ways.UnknownWay.{UnknownWay}
use Rattle.sheet.specs.Refusal.{refusal_number}
use Rattle.sheet.specs.declared.refusal.Refusal.{Refusal}
use Rattle.sheet.specs.declared.refusal.Refusal.TheVariants.{ColumnCount, Malformed, TooLarge, BaseTooFar, PageSize, NoSuchPage, NoColumnList, WalkSpace, NoRoom}

pub most_columns_fixed : Fixes most-columns.Post
most_columns_fixed k a x y s t p q = p ∙ sym q

-- ---- which code names which rebuilding
named_one : (code : ℕ) (x y : Result Rebuilding UnknownWay) → Named code x → Named code y → x ≡ y
named_one code (Ok a) (Ok b) p q = let z : Some a ≡ Some b = sym p ∙ q in cc
named_one code (Ok a) (Err v) p q = let z = sym p ∙ q in cc
named_one code (Err u) (Ok b) p q = let z = sym p ∙ q in cc
named_one code (Err u) (Err v) p q = refl

pub named_fixed : Fixes try-from.Post
named_fixed k a x y s t p q = named_one a.0 x y p q

-- the refusal that has a number
of_number : ℕ → Refusal
of_number n =
    cond (eqb n 1) ColumnCount (cond (eqb n 2) Malformed (cond (eqb n 3) TooLarge (cond (eqb n 4) BaseTooFar (cond (eqb n 5) PageSize
    (cond (eqb n 6) NoSuchPage (cond (eqb n 7) NoColumnList (cond (eqb n 8) WalkSpace NoRoom)))))))

numbered : (r : Refusal) → of_number (refusal_number r) ≡ r
unfolding of_number
numbered ColumnCount = refl
numbered Malformed = refl
numbered TooLarge = refl
numbered BaseTooFar = refl
numbered PageSize = refl
numbered NoSuchPage = refl
numbered NoColumnList = refl
numbered WalkSpace = refl
numbered NoRoom = refl

pub unnamed_fixed : Fixes unnamed.Post
unnamed_fixed k a x y s t p q = sym (numbered x) ∙ (ap of_number (p ∙ sym q) ∙ numbered y)
