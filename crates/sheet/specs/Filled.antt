-- Calls that fill lent lists: the numbers of their answer, and what one promises that fills one list.
-- Assumes nothing.
use Rattle.std.specs.Prelude.{ℕ, min, ◌≡◌, cond, List, ltb, leb, length, take, Result, Ok, Err}
use Rattle.sheet.specs.Answer.{number_in, end_number, written_in, end_written}
use Rattle.sheet.specs.Refusal.{Checked, refusal_number, after, after_or0, after_or_kept}
use Rattle.sheet.specs.Sheet.{overlay}
use Rattle.sheet.specs.declared.filled.Filled.{Filled}
use Rattle.sheet.specs.declared.filled.Filled.TheVariants.{Done, Full}
use Rattle.sheet.specs.declared.refusal.Refusal.{Refusal}
use Rattle.sheet.specs.declared.refusal.Refusal.TheVariants.{NoRoom}

-- Rule 1.1: the number of an answer; 0 stands for none
abbrev pub filled_number : Result Filled Refusal → ℕ
filled_number r = number_in end_number r

-- Rule 1.2: how many things an answer says are written
abbrev pub filled_written : Result Filled Refusal → ℕ
filled_written r = written_in end_written r

-- Rule 1.2: what n things come to where there are so many cells
abbrev pub filled_by : ℕ → ℕ → Filled
filled_by n room = cond (leb n room) (Done n) (Full room)

-- Rule 1.1: the number of a call whose checks come to c and that has n things for so many cells: that of the check, or 9 for one thing more
abbrev pub number_after : Checked → ℕ → ℕ → ℕ
number_after c n room = after refusal_number c (cond (ltb room n) (refusal_number NoRoom) 0)

-- Rule 1.2: how many it says are written: none where a check refuses, else as many as fit
abbrev pub written_after : Checked → ℕ → ℕ → ℕ
written_after c n room = after_or0 c (min room n)

-- Rule 1.2: the first things over what a list held, as many as it has cells
abbrev pub laid : {A : Type 0} → List A → List A → List A
laid things old = overlay (take (length old) things) old

-- ---- a call that fills one list

-- what its answer rests on: what its checks come to, the things that it has for the list, and what the list holds
pub record ListFilling : Type 0 where
  pub checked : Checked
  pub things : List ℕ
  pub old : List ℕ

unfoldable pub list_answer : ListFilling → Result Filled Refusal
list_answer a = after Err a.checked (Ok (filled_by (length a.things) (length a.old)))

unfoldable pub list_number : ListFilling → ℕ
list_number a = number_after a.checked (length a.things) (length a.old)

unfoldable pub list_written : ListFilling → ℕ
list_written a = written_after a.checked (length a.things) (length a.old)

unfoldable pub list_left : ListFilling → List ℕ
list_left a = after_or_kept a.checked (laid a.things a.old) a.old

-- what such a call comes to: its answer, and what the list holds at exit
pub record ListOutcome : Type 0 where
  pub answer : Result Filled Refusal
  pub list : List ℕ

abbrev pub list_outcome : Result Filled Refusal → List ℕ → ListOutcome
list_outcome r list = record { answer = r; list = list }

-- what it promises
pub record FillsList (a : ListFilling) (x : ListOutcome) : Type 0 where
  pub answer : x.answer ≡ list_answer a
  pub number : filled_number x.answer ≡ list_number a
  pub written : filled_written x.answer ≡ list_written a
  pub list : x.list ≡ list_left a
