-- The values of a row (rule 12.9): what its columns read as, by the places of its bodies.
-- Assumes nothing.
use Rattle.std.specs.Prelude.{ℕ, ◌+◌, cond, List, [], ◌∷◌, ◌++◌, map, leb, length, replicate, None, Some}
use Rattle.modes.specs.Found.{Found}
use Rattle.modes.specs.Modes.{modes_found, modes_filling}
use Rattle.record.specs.Value.{body_length, value_of}
use Rattle.record.specs.Value.{Length}
use Rattle.record.specs.declared.record.Value.{Value}
use Rattle.record.specs.declared.record.Value.TheVariants.{Null}
use Rattle.sheet.specs.Values.{written_values}

-- Rule 12.9: the value of type t at `at`, if its body fits; if not, NULL, and the next one stands at the same place
abbrev pub value_on : List ℕ → ℕ → ℕ → (ℕ → List Value) → Length → List Value
value_on s at t rest (Some n) = cond (leb (at + n) (length s)) (value_of t s at n ∷ rest (at + n)) (Null ∷ rest at)
value_on s at t rest None = Null ∷ rest at

unfoldable pub values_from : List ℕ → ℕ → List ℕ → List Value
values_from s at [] = []
values_from s at (t ∷ ts) = value_on s at t (λ next. values_from s next ts) (body_length t)

-- Rule 12.9: a row's values, with a NULL for each column that is lost before them; and those of rows, row by row
abbrev pub row_values : List ℕ → Found → List Value
row_values s x = replicate x.style.lost Null ++ values_from s x.start x.types

abbrev pub rows_values : List ℕ → List Found → List (List Value)
rows_values s xs = map (row_values s) xs

-- those of the rows that the call writes
unfoldable pub carve_values : List ℕ → ℕ → ℕ → List ℕ → List ℕ → List Value
carve_values s base columns rows cols = written_values (modes_filling s base columns rows cols) (rows_values s (modes_found s columns))
