-- Refusals: their numbers, and which of a call's checks decides.
-- Assumes nothing.
use Rattle.std.specs.Prelude.{ℕ, Bool, cond, List, [], ◌∷◌, Result, Err, Ok}
use Rattle.sheet.specs.declared.refusal.Refusal.{Refusal}
use Rattle.sheet.specs.declared.refusal.Refusal.TheVariants.{ColumnCount, Malformed, TooLarge, BaseTooFar, PageSize}
use Rattle.sheet.specs.declared.refusal.Refusal.TheVariants.{NoSuchPage, NoColumnList, WalkSpace, NoRoom}

-- Rule 1.1: the number of each refusal
abbrev pub refusal_number : Refusal → ℕ
refusal_number ColumnCount = 1
refusal_number Malformed = 2
refusal_number TooLarge = 3
refusal_number BaseTooFar = 4
refusal_number PageSize = 5
refusal_number NoSuchPage = 6
refusal_number NoColumnList = 7
refusal_number WalkSpace = 8
refusal_number NoRoom = 9

-- what checks come to: they pass, or one refuses
abbrev pub Checked : Type 0
Checked = Result Unit Refusal

-- a check: what it refuses with, and whether it does
pub record Check : Type 0 where
  pub refusal : Refusal
  pub holds : Bool

-- Rule 1.1: checks run in their order: the first that holds refuses
abbrev pub first_held : List Check → Checked
first_held [] = (Ok tt)
first_held (c ∷ cs) = cond c.holds (Err c.refusal) (first_held cs)

-- and without one the call comes to what its work does
abbrev pub after : {A : Type 0} → (Refusal → A) → Checked → A → A
after refused (Ok tt) done = done
after refused (Err r) done = refused r

-- Rule 1.2: what is refused by a check answers 0 beside the number, and leaves a list as it was
abbrev pub after_or0 : Checked → ℕ → ℕ
after_or0 c n = after (λ r. 0) c n

abbrev pub after_or_kept : {A : Type 0} → Checked → List A → List A → List A
after_or_kept c new old = after (λ r. old) c new
