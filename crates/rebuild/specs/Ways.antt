-- The codes of the ways in which a header is rebuilt, and what a call comes to by its code.
-- Assumes nothing.
use Rattle.std.specs.Prelude.{ℕ, ◌≡◌, Bool, cond, eqb, Option, Some, None, Result, Ok, Err}
use Rattle.rebuild.specs.declared.ways.UnknownWay.{UnknownWay}
use Rattle.rebuild.specs.declared.rebuilding.Rebuilding.{Rebuilding}
use Rattle.rebuild.specs.declared.rebuilding.Rebuilding.TheVariants.{NoGuesses, OneByte, Exact}
use Rattle.sheet.specs.Refusal.{refusal_number}
use Rattle.sheet.specs.declared.refusal.Refusal.TheVariants.{ColumnCount, Malformed}

-- a way, if a code names one
abbrev pub Way : Type 0
Way = Option Rebuilding

-- Rule 11.10: so that a zero that nobody set brings no guesses
abbrev pub named : ℕ → Way
named code = cond (eqb code 0) (Some NoGuesses) (cond (eqb code 1) (Some OneByte) (cond (eqb code 2) (Some Exact) None))

-- what reading a code gives
abbrev pub Named : ℕ → Result Rebuilding UnknownWay → Type 0
Named code (Ok how) = named code ≡ Some how
Named code (Err u) = named code ≡ None

-- what a call comes to in the way that is named, and what it comes to where none is
abbrev pub by_name : {A : Type 0} → Way → (Rebuilding → A) → A → A
by_name (Some how) call none = call how
by_name None call none = none

-- Rule 1.1: refusal 2 in rising order, so behind 1 for a count of columns that no table has
abbrev pub unnamed_number : Bool → ℕ
unnamed_number fits = cond fits (refusal_number Malformed) (refusal_number ColumnCount)
