-- What a call answers, as numbers: the refusal's, and how many things are written.
-- Assumes nothing.
use Rattle.std.specs.Prelude.{ℕ, Result, Ok, Err}
use Rattle.sheet.specs.Refusal.{refusal_number}
use Rattle.sheet.specs.declared.filled.Filled.{Filled}
use Rattle.sheet.specs.declared.filled.Filled.TheVariants.{Done, Full}
use Rattle.sheet.specs.declared.refusal.Refusal.{Refusal}
use Rattle.sheet.specs.declared.refusal.Refusal.TheVariants.{NoRoom}

-- Rule 1.1: the number of an answer; 0 stands for none
abbrev pub number_in : {A : Type 0} → (A → ℕ) → Result A Refusal → ℕ
number_in number (Ok done) = number done
number_in number (Err r) = refusal_number r

-- Rule 1.2: how many things it says are written
abbrev pub written_in : {A : Type 0} → (A → ℕ) → Result A Refusal → ℕ
written_in written (Ok done) = written done
written_in written (Err r) = 0

-- both of a call that has filled a list
abbrev pub end_number : Filled → ℕ
end_number (Done n) = 0
end_number (Full n) = refusal_number NoRoom

abbrev pub end_written : Filled → ℕ
end_written (Done n) = n
end_written (Full n) = n
