-- The values of a row (rule 4.13): what its columns say, by the bodies' places.
-- Assumes nothing.
use Rattle.std.specs.Prelude.{ℕ, ◌+◌, List, [], ◌∷◌, None, Some}
use Rattle.attempt.specs.Attempt.{kinds, types_from}
use Rattle.record.specs.Value.{body_length, value_of}
use Rattle.record.specs.Varint.{varint_at}
use Rattle.record.specs.Value.{Length}
use Rattle.record.specs.declared.record.Value.{Value as Cell}
use Rattle.record.specs.Varint.{Varint}

-- the values of types whose bodies stand one behind the other, from `at` on
abbrev pub value_on : List ℕ → ℕ → ℕ → (ℕ → List Cell) → Length → List Cell
value_on s at t rest (Some n) = value_of t s at n ∷ rest (at + n)
value_on s at t rest None = []

unfoldable pub values_from : List ℕ → ℕ → List ℕ → List Cell
values_from s at [] = []
values_from s at (t ∷ ts) = value_on s at t (λ next. values_from s next ts) (body_length t)

-- Rule 4.13: the row at o has the types of its header of h bytes, and their bodies from o + h on
abbrev pub values_with : List ℕ → ℕ → Varint → List Cell
values_with s o (Some (h, c)) = values_from s (o + h) (kinds (types_from h s c.at (o + h)))
values_with s o None = []

unfoldable pub row_values : List ℕ → ℕ → List Cell
row_values s o = values_with s o (varint_at s o)
