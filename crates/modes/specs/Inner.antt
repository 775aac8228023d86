-- What the code carries between its own functions; nothing that a caller has to believe.
-- Assumes nothing.
use Rattle.std.specs.Prelude.{ℕ, zero, suc, ◌+◌, ◌*◌, ◌≤◌, ◌≡◌, Bool, List, [], ◌∷◌, length, Option, None, Some}
use Rattle.modes.specs.Found.{Types, cut, read, Found, Tried, miss, hit, found_hit}
use Rattle.modes.specs.declared.inner.Find.{Find}
use Rattle.modes.specs.declared.inner.TypesRead.{TypesRead}
use Rattle.record.specs.Varint.{Varint, varint_at}
use Rattle.sheet.specs.Columns.{room_of}
use Rattle.sheet.specs.Hits.{Hit}
use Rattle.sheet.specs.Limits.{words_per_row, words_per_entry, most_columns, largest_region, largest_base}
use Rattle.sheet.specs.declared.inner.Sheet.{Sheet}

-- the types that were read, and p, their mark
pub record WholeIs (w : Types) (p : Bool) (count end : ℕ) (padded : Bool) : Type 0 where
  pub types : List ℕ
  pub is : w ≡ read types end
  pub counts : length types ≡ count
  pub marks : p ≡ padded

abbrev pub TypesAre : Types → Bool → Option TypesRead → Type 0
TypesAre w p (Some r) = WholeIs w p r.count r.end r.padded
TypesAre w p None = w ≡ cut

-- so many types that stand one behind the other
abbrev pub kind_on : Varint → (ℕ → List ℕ) → List ℕ
kind_on (Some (t, c)) rest = t ∷ rest c.at
kind_on None rest = []

unfoldable pub kinds_at : ℕ → List ℕ → ℕ → List ℕ
kinds_at zero s at = []
kinds_at (suc n) s at = kind_on (varint_at s at) (λ next. kinds_at n s next)

-- the row that a find is
abbrev pub found_in : List ℕ → Find → Found
found_in s x = record { style = x.style; at = x.at; start = x.start; types = kinds_at x.count s x.from; padded = x.padded }

-- its bodies start in the slice, not before the row, and its columns are no more than there may be
pub record FindFits (s : List ℕ) (columns : ℕ) (x : Find) : Type 0 where
  pub order : x.at ≤ x.start
  pub inside : x.start ≤ length s
  pub counts : length (kinds_at x.count s x.from) ≡ x.count
  pub one : x.style.lost ≤ 1
  pub few : x.style.lost + x.count ≤ columns

-- what a mode finds
pub record HitIs (s : List ℕ) (columns : ℕ) (t : Tried) (x : Find) : Type 0 where
  pub is : t ≡ hit (found_in s x)
  pub fits : FindFits s columns x

abbrev pub TriedIs : List ℕ → ℕ → Tried → Option Find → Type 0
TriedIs s columns t (Some x) = HitIs s columns t x
TriedIs s columns t None = t ≡ miss

abbrev pub TriedFits : List ℕ → ℕ → Option Find → Type 0
TriedFits s columns (Some x) = FindFits s columns x
TriedFits s columns None = Unit

abbrev pub tried_hits : List ℕ → ℕ → Option Find → List Hit
tried_hits s base (Some x) = found_hit (length s) base (found_in s x) ∷ []
tried_hits s base None = []

-- a slice of so many bytes is carved onto a sheet, whose groups are as wide as there are columns
pub record Ready (len base : ℕ) (sheet : Sheet) : Type 0 where
  pub small : len ≤ largest_region
  pub near : base ≤ largest_base
  pub some : 1 ≤ sheet.width
  pub few : sheet.width ≤ most_columns
  pub room_most : sheet.room ≤ room_of (length sheet.rows.now) (length sheet.cols.now) sheet.width
  pub fits : sheet.n ≤ sheet.room

-- a row that fits, and its words on a sheet
pub record Fitting (s : List ℕ) (x : Find) (base : ℕ) (sheet : Sheet) : Type 0 where
  pub small : length s ≤ largest_region
  pub near : base ≤ largest_base
  pub fits : FindFits s sheet.width x
  pub row : sheet.n * words_per_row + words_per_row ≤ length sheet.rows.now
  pub group : sheet.n * (words_per_entry * sheet.width) + words_per_entry * sheet.width ≤ length sheet.cols.now

-- a row that may be added to one, if there is room
pub record Adding (s : List ℕ) (x : Find) (base : ℕ) (sheet : Sheet) : Type 0 where
  pub ready : Ready (length s) base sheet
  pub fits : FindFits s sheet.width x

-- where a row that was added ends
abbrev pub EndsAt : ℕ → Option ℕ → Type 0
EndsAt end (Some e) = e ≡ end
EndsAt end None = Unit
