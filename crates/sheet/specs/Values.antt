-- The values of the rows that a call writes: what their column entries read as over the lent slice.
-- Assumes nothing.
use Rattle.std.specs.Prelude.{ℕ, ◌-◌, List, [], ◌∷◌, ◌++◌, length, take, replicate}
use Rattle.record.specs.declared.record.Value.{Value}
use Rattle.record.specs.declared.record.Value.TheVariants.{Null}
use Rattle.sheet.specs.Hits.{RowFilling, row_room}
use Rattle.sheet.specs.Refusal.{after_or_kept}

-- Rule 5.2: groups one behind the other; the entries behind a narrower row's columns are NULL
abbrev pub groups_values : ℕ → List (List Value) → List Value
groups_values width [] = []
groups_values width (vs ∷ vss) = (vs ++ replicate (width - length vs) Null) ++ groups_values width vss

-- those of the rows that a call writes, of all that are there
abbrev pub written_values : RowFilling → List (List Value) → List Value
written_values a values = after_or_kept a.checked (groups_values a.width (take (row_room a) values)) []
