-- What the code carries between its own functions, and what its callers get; nothing that a reader of a call's contract has to believe.
-- Assumes nothing.
use Rattle.std.specs.Prelude.{ℕ, zero, suc, ◌+◌, ◌-◌, ◌*◌, ◌≤◌, ◌<◌, ◌≡◌, Bool, true, false, List, length, get_or, Option, Some, None}
use Rattle.std.specs.Prelude.{Result, Ok, Err}
use Rattle.attempt.specs.Attempt.{Types, kinds, is_whole, attempt_at}
use Rattle.attempt.specs.Inner.{reach, header_types, MissIs, HitIs}
use Rattle.attempt.specs.Places.{most_places, attempt_places}
use Rattle.attempt.specs.declared.inner.Find.{Find}
use Rattle.filter.specs.declared.inner.high.High.{High}
use Rattle.filter.specs.declared.inner.Next.{Next}
use Rattle.filter.specs.declared.inner.Row.{Row}
use Rattle.filter.specs.declared.inner.PassedOver.{PassedOver}

-- ---- runs of bytes from 128 up

-- the run that p is in begins at r, and ends at r
pub record Begins (s : List ℕ) (p r : ℕ) : Type 0 where
  pub before : r ≤ p
  pub high : (q : ℕ) → r ≤ q → q ≤ p → 128 ≤ get_or s q 0
  pub low : 0 < r → get_or s (r - 1) 0 < 128

pub record Stops (s : List ℕ) (p r : ℕ) : Type 0 where
  pub behind : p < r
  pub inside : r ≤ length s
  pub high : (q : ℕ) → p ≤ q → q < r → 128 ≤ get_or s q 0
  pub low : r < length s → get_or s r 0 < 128

-- a run, if it is not empty
pub record IsHigh (s : List ℕ) (run : High) : Type 0 where
  pub inside : run.to ≤ length s
  pub high : (q : ℕ) → run.from ≤ q → q < run.to → 128 ≤ get_or s q 0
  pub low_before : run.from < run.to → 0 < run.from → get_or s (run.from - 1) 0 < 128
  pub low_behind : run.from < run.to → run.to < length s → get_or s run.to 0 < 128

-- that has p in it
pub record Holds (s : List ℕ) (p : ℕ) (run : High) : Type 0 where
  pub is : IsHigh s run
  pub from_there : run.from ≤ p
  pub to_there : p < run.to

-- true says that the bytes between are all below 128
abbrev pub AllLow : List ℕ → ℕ → ℕ → Bool → Type 0
AllLow s from to true = (q : ℕ) → from ≤ q → q < to → get_or s q 0 < 128
AllLow s from to false = Unit

-- bytes from one place up to another are below 2, and none is behind the slice's end
pub record LowTo (s : List ℕ) (from to : ℕ) : Type 0 where
  pub behind : from ≤ to
  pub near : from < length s → to ≤ length s
  pub early : length s ≤ from → to ≡ from
  pub low : (q : ℕ) → from ≤ q → q < to → get_or s q 0 < 2

-- ---- types

-- true says that n types are fewer bytes than a header has behind its first
abbrev pub TooLong : ℕ → ℕ → Bool → Type 0
TooLong n head true = 9 * n < head - 1
TooLong n head false = Unit

-- false says that the types are not n, or are cut
abbrev pub MayHave : Types → ℕ → Bool → Type 0
MayHave ts n true = Unit
MayHave ts n false = is_whole ts ≡ true → length (kinds ts) ≡ n → ⊥

-- a number says how far from o reading the types of the header of h bytes there goes
abbrev pub SoonEnds : List ℕ → ℕ → ℕ → Option ℕ → Type 0
SoonEnds s o h (Some r) = reach s (header_types s o h (o + 1)) ≡ o + r
SoonEnds s o h None = Unit

-- ---- offsets

abbrev pub MissAt : List ℕ → List ℕ → ℕ → ℕ → Type 0
MissAt s hints o read = MissIs (attempt_at s hints o) (attempt_places s o) read

-- a number of header bytes says that the attempt fails and reads so many
abbrev pub Dismissed : List ℕ → List ℕ → ℕ → Option ℕ → Type 0
Dismissed s hints o (Some read) = MissAt s hints o read
Dismissed s hints o None = Unit

-- the attempts at k offsets from o on fail, and read so many header bytes in all
abbrev pub MissFrom : List ℕ → List ℕ → ℕ → ℕ → ℕ → Type 0
MissFrom s hints o zero read = read ≡ 0
MissFrom s hints o (suc k) read = (sum r : ℕ) × MissFrom s hints o k sum × MissAt s hints (o + k) r × (read ≡ sum + r)

-- the attempts from `start` up to `to` fail, and read so many
pub record MissBetween (s hints : List ℕ) (start to read : ℕ) : Type 0 where
  pub count : ℕ
  pub to_is : to ≡ start + count
  pub each_fails : MissFrom s hints start count read
  pub few : read ≤ most_places * count

-- offsets from `start` to `to` are passed over, and none from `last` on
pub record PassedOverIs (s hints : List ℕ) (start last to read : ℕ) : Type 0 where
  pub misses : MissBetween s hints start to read
  pub near : start < last → to ≤ last
  pub early : last ≤ start → (to ≡ start) × (read ≡ 0)

-- and the run that was met last is one
pub record PassedWithRunIs (s hints : List ℕ) (start last : ℕ) (r : PassedOver) (run : High) : Type 0 where
  pub passed : PassedOverIs s hints start last r.to r.read
  pub run_is : IsHigh s run

-- ---- the next row, behind offsets that are passed over
pub record RowIs (s hints : List ℕ) (start last at : ℕ) (x : Find) (read : ℕ) (run : High) : Type 0 where
  pub misses : MissBetween s hints start at read
  pub below : at < last
  pub found : HitIs s hints at (attempt_at s hints at) (attempt_places s at) x
  pub run_is : IsHigh s run

-- or all are passed over
pub record ThroughIs (s hints : List ℕ) (start last read : ℕ) : Type 0 where
  pub to : ℕ
  pub passed : PassedOverIs s hints start last to read
  pub there : last ≤ to

-- or one step on
pub record OnIs (s hints : List ℕ) (o last : ℕ) (x : PassedOver) (run : High) : Type 0 where
  pub step : PassedWithRunIs s hints o last x run
  pub further : o < last → o < x.to

abbrev pub StepSays : List ℕ → List ℕ → ℕ → ℕ → Result Find PassedOver → High → Type 0
StepSays s hints o last (Ok x) run = (o < last) × HitIs s hints o (attempt_at s hints o) (attempt_places s o) x × IsHigh s run
StepSays s hints o last (Err x) run = OnIs s hints o last x run

abbrev pub RowOr : List ℕ → List ℕ → ℕ → ℕ → ℕ → Option Row → Type 0
RowOr s hints start last read (Some row) = RowIs s hints start last row.at row.find read row.run
RowOr s hints start last read None = ThroughIs s hints start last read

abbrev pub NextSays : List ℕ → List ℕ → ℕ → ℕ → Next → Type 0
NextSays s hints start last next = RowOr s hints start last next.read next.row
