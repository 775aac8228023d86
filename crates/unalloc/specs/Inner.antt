-- What the code carries between its own functions; nothing that a caller has to believe.
-- Assumes nothing.
use Rattle.std.specs.Prelude.{ℕ, ◌≤◌, ◌≡◌, Bool, true, false, cond, List, length, get_or, Option, None, Some}
use Rattle.modes.specs.Found.{Types, cut, read, columns_from}
use Rattle.sheet.specs.Limits.{most_columns, largest_region}
use Rattle.unalloc.specs.Learned.{matches, matched, all_there}
use Rattle.unalloc.specs.declared.unalloc.Reading.{Reading}

-- 1 where the type matches the one learned for the column k
abbrev pub matches_at : List ℕ → ℕ → ℕ → ℕ
matches_at ls k t = cond (matches t (get_or ls k 0)) 1 0

-- a header that ends at `stop`: its types stand from `from` on
pub record Headed (s ls : List ℕ) (from stop : ℕ) : Type 0 where
  pub small : length s ≤ largest_region
  pub few : length ls ≤ most_columns
  pub inside : from ≤ length s
  pub within : stop ≤ length s

-- types of which each has its body, so many match, and p is the mark
pub record AllIs (s ls : List ℕ) (stop : ℕ) (w : Types) (p : Bool) (count n : ℕ) (padded : Bool) : Type 0 where
  pub types : List ℕ
  pub end : ℕ
  pub is : w ≡ read types end
  pub counts : length types ≡ count
  pub matches_are : matched ls types ≡ n
  pub there : all_there (columns_from (length s) stop types) ≡ true
  pub few : n ≤ count
  pub marks : p ≡ padded

-- types that run off, or one of which has no body
abbrev pub FailsIs : List ℕ → ℕ → Types → Type 0
FailsIs s stop cut = Unit
FailsIs s stop (read ts end) = all_there (columns_from (length s) stop ts) ≡ false

abbrev pub ReadingIs : List ℕ → List ℕ → ℕ → Types → Bool → Option Reading → Type 0
ReadingIs s ls stop w p (Some r) = AllIs s ls stop w p r.count r.matched r.padded
ReadingIs s ls stop w p None = FailsIs s stop w
