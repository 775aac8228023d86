-- The input of carvelist: a count, as many hint codes, and the region; and what is refused.
-- Assumes nothing.
use Rattle.std.specs.Prelude.{ℕ, ◌+◌, ◌-◌, ◌≤◌, cond, not, List, [], ◌∷◌, ltb, length, take, drop}
use Rattle.record.specs.Value.{big_endian}
use Rattle.sheet.specs.Limits.{most_columns, count_fits, hints_known}
use Rattle.sheet.specs.Refusal.{Check}
use Rattle.sheet.specs.declared.refusal.Refusal.TheVariants.{ColumnCount, Malformed, TooLarge}

-- Rule 8.2: the most bytes that are taken
abbrev pub largest_input : ℕ
largest_input = 65536

-- Rule 8.1: the count has two bytes,
abbrev pub count_bytes : ℕ
count_bytes = 2

-- the high one first; it is 0 where they are not there
unfoldable pub count_of : List ℕ → ℕ
count_of s = cond (ltb (length s) count_bytes) 0 (big_endian s 0 count_bytes)

-- its hints, and the rest
abbrev pub hints_of : List ℕ → List ℕ
hints_of s = take (count_of s) (drop count_bytes s)

abbrev pub region_of : List ℕ → List ℕ
region_of s = drop (count_bytes + count_of s) s

-- Rule 8.2: its length is judged first; then that there is a count, and not too large a one; then that its hints are all there, and known
abbrev pub input_checks : List ℕ → List Check
input_checks s =
    record { refusal = TooLarge; holds = ltb largest_input (length s) }
    ∷ record { refusal = ColumnCount; holds = ltb (length s) count_bytes }
    ∷ record { refusal = ColumnCount; holds = not (count_fits (count_of s)) }
    ∷ record { refusal = Malformed; holds = ltb (length s - count_bytes) (count_of s) }
    ∷ record { refusal = Malformed; holds = not (hints_known (hints_of s)) }
    ∷ []

-- what passes them has all its hints, and few enough
pub record Taken (s : List ℕ) : Type 0 where
  pub small : length s ≤ largest_input
  pub whole : count_bytes + count_of s ≤ length s
  pub few : count_of s ≤ most_columns
