-- What the code carries between its own functions; nothing that a caller has to believe.
-- Assumes nothing.
use Rattle.std.specs.Prelude.{ℕ, ◌+◌, ◌*◌, ◌≤◌, ◌<◌, ◌≡◌, Bool, true, false, List, [], ◌∷◌, ◌++◌, length, get_or, take}
use Rattle.record.specs.declared.entry.Entry.{Entry}
use Rattle.sheet.specs.Limits.{most_columns, words_per_entry, largest_region, most_rows}
use Rattle.learn.specs.Learn.{given}
use Rattle.learn.specs.Types.{count_in}
use Rattle.learn.specs.declared.learn.Leader.{Leader}

-- a type with its count
abbrev pub Counts : List ℕ → Leader → Type 0
Counts ts l = l.count ≡ count_in l.kind ts

-- how many types have a counter
abbrev pub counter_count : ℕ
counter_count = 8192

-- each counter of a table says how often its type occurs; those of no types are all 0
abbrev pub Tallied : List ℕ → List ℕ → Type 0
Tallied table ts = (k : ℕ) → k < length table → get_or table k 0 ≡ count_in k ts

-- lent bytes, and entries of which so many rows are read: the bounds behind the checks
pub record Lent (s words : List ℕ) (width rows : ℕ) : Type 0 where
  pub small : length s ≤ largest_region
  pub narrow : width ≤ most_columns
  pub few : rows ≤ most_rows
  pub whole : rows * (words_per_entry * width) ≤ length words

-- a yes says that an entry gives the type that it has; a no says nothing
abbrev pub OwnType : List ℕ → Entry → Bool → Type 0
OwnType s e true = given s e ≡ e.kind ∷ []
OwnType s e false = Unit

-- types put behind the first n of a list, of which r are used then
pub record PutType (types : List ℕ) (n : ℕ) (old : List ℕ) (r : ℕ) (new : List ℕ) : Type 0 where
  pub most : r ≤ n + 1
  pub list : take r new ≡ take n old ++ types
