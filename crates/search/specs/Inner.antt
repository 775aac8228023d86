-- What the code carries between its own functions; nothing that a caller has to believe.
-- Assumes nothing.
use Rattle.std.specs.Prelude.{ℕ, ◌+◌, ◌-◌, ◌≤◌, ◌<◌, ◌≡◌, Bool, true, false, List, length, get_or}
use Rattle.sheet.specs.Limits.{largest_region}
use Rattle.search.specs.Search.{stands_at, places_below}

-- from j on the pattern's bytes are those at `at`
abbrev pub SameFrom : List ℕ → List ℕ → ℕ → ℕ → Type 0
SameFrom haystack pattern at j = (k : ℕ) → j ≤ k → k < length pattern → get_or haystack (at + k) 0 ≡ get_or pattern k 0

-- an answer about the pattern's bytes from i up to j
pub record Tells (haystack pattern : List ℕ) (at i j : ℕ) (answer : Bool) : Type 0 where
  pub same : answer ≡ true → (k : ℕ) → i ≤ k → k < j → get_or haystack (at + k) 0 ≡ get_or pattern k 0
  pub differs : answer ≡ false → stands_at haystack pattern at ≡ false

-- no shift is larger than n
abbrev pub AtMost : ℕ → List ℕ → Type 0
AtMost n table = (b : ℕ) → b < 256 → get_or table b 0 ≤ n

-- a table of shifts into which the first n bytes of the pattern are entered
pub record Entered (pattern : List ℕ) (n : ℕ) (table : List ℕ) : Type 0 where
  pub size : length table ≡ 256
  -- the window goes on
  pub moves : (b : ℕ) → b < 256 → 0 < get_or table b 0
  -- by its own length at most,
  pub most : AtMost (length pattern) table
  -- and no further than where one of the bytes comes under the window's end
  pub meets : (k : ℕ) → k < n → k + 1 + get_or table (get_or pattern k 0) 0 ≤ length pattern

-- where a pattern ends
abbrev pub last_of : List ℕ → ℕ
last_of pattern = length pattern - 1

-- a table of shifts by which a window that ends with the pattern's last byte stays
pub record Staying (pattern table : List ℕ) : Type 0 where
  -- any other goes on
  pub moves : (b : ℕ) → b < 256 → (b ≡ get_or pattern (last_of pattern) 0 → ⊥) → 0 < get_or table b 0
  pub most : AtMost (length pattern) table
  pub meets : (k : ℕ) → k < length pattern → k + 1 + get_or table (get_or pattern k 0) 0 ≤ length pattern

-- a window that ends at i, behind the haystack at the latest by its own length, and such a table
pub record Windows (haystack pattern table : List ℕ) (i : ℕ) : Type 0 where
  pub some : 0 < length pattern
  pub fits : length pattern ≤ length haystack
  pub small : length haystack ≤ largest_region
  pub whole : last_of pattern ≤ i
  pub inside : i - last_of pattern ≤ length haystack
  pub shifts : Staying pattern table

-- between windows that end at i and at j no place is passed over
pub record Skips (haystack pattern : List ℕ) (i j : ℕ) : Type 0 where
  pub on : i ≤ j
  pub inside : j - last_of pattern ≤ length haystack
  pub none : places_below haystack pattern (j - last_of pattern) ≡ places_below haystack pattern (i - last_of pattern)

-- a window that ends at i, within the haystack, ends with the pattern's last byte
abbrev pub Ends : List ℕ → List ℕ → ℕ → Type 0
Ends haystack pattern i = i < length haystack → get_or haystack i 0 ≡ get_or pattern (last_of pattern) 0
