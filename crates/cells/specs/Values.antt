-- The values of the rows in a payload (rule 4.13): what their columns say, by the bodies' places.
-- Assumes nothing.
use Rattle.std.specs.Prelude.{ℕ, zero, suc, ◌+◌, ◌-◌, Bool, true, false, List, [], ◌∷◌, ◌++◌, map, length, take, drop}
use Rattle.attempt.specs.Attempt.{Tried, miss, hit, kinds, types_from}
use Rattle.attempt.specs.Values.{values_from, row_values}
use Rattle.cells.specs.Cells.{CellRow, cells_of, starts_of}
use Rattle.starts.specs.Starts.{rebuilt_starts}
use Rattle.page.specs.Page.{among}
use Rattle.rebuild.specs.Header.{Guess, no_header, takes, guessed, rebuilt}
use Rattle.rebuild.specs.declared.rebuilding.Rebuilding.{Rebuilding}
use Rattle.record.specs.Value.{moved_value}
use Rattle.record.specs.declared.record.Value.{Value}

-- a cell's record has the values of a row at its start
abbrev pub cell_values : List ℕ → CellRow → List Value
cell_values d c = map (moved_value c.at) (row_values (take (c.end - c.at) (drop c.at d)) 0)

abbrev pub cells_values : List ℕ → List CellRow → List (List Value)
cells_values d [] = []
cells_values d (c ∷ cs) = cell_values d c ∷ cells_values d cs

-- Rules 11.6 and 11.9: a rebuilt row has the types in the bytes that its header takes from v on, and their bodies behind these bytes
abbrev pub values_behind : List ℕ → ℕ → Guess → List Value
values_behind d v no_header = []
values_behind d v (takes t) = values_from d (v + t) (kinds (types_from t d v (v + t)))

abbrev pub rebuilt_values : Rebuilding → List ℕ → ℕ → ℕ → List Value
rebuilt_values how d columns v = values_behind d v (guessed how d columns v)

abbrev pub start_values : Rebuilding → List ℕ → ℕ → ℕ → Bool → Tried → List (List Value)
start_values how d columns v true t = []
start_values how d columns v false miss = []
start_values how d columns v false (hit x) = rebuilt_values how d columns v ∷ []

unfoldable pub rebuilt_values_from : ℕ → Rebuilding → List ℕ → List ℕ → List ℕ → ℕ → List (List Value)
rebuilt_values_from zero how cells d hints v = []
rebuilt_values_from (suc k) how cells d hints v =
    start_values how d (length hints) v (among v cells) (rebuilt how d hints v) ++ rebuilt_values_from k how cells d hints (suc v)

-- row by row, as `payload_hits` has them
unfoldable pub payload_values : Rebuilding → List ℕ → List ℕ → List (List Value)
payload_values how d hints =
    cells_values d (cells_of d hints)
    ++ rebuilt_values_from (rebuilt_starts (length d) (length hints)) how (starts_of (cells_of d hints)) d hints 0

-- such values said of a slice in which the payload begins at `by`
abbrev pub in_slice : ℕ → List (List Value) → List (List Value)
in_slice by [] = []
in_slice by (vs ∷ vss) = map (moved_value by) vs ∷ in_slice by vss
