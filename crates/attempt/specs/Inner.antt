-- What the code carries between its own functions; nothing that a caller has to believe.
-- Assumes nothing.
use Rattle.std.specs.Prelude.{ℕ, ◌+◌, ◌-◌, ◌≤◌, min, ◌≡◌, Bool, true, false, List, [], ◌∷◌, ◌++◌, length, drop, Option, None, Some, Result}
use Rattle.std.specs.Prelude.{Ok, Err}
use Rattle.attempt.specs.Attempt.{Types, ended, cut, kind, kinds, is_whole, types_from, Found, Tried, miss, hit}
use Rattle.attempt.specs.Attempt.{judged_whole}
use Rattle.attempt.specs.Hints.{suited}
use Rattle.attempt.specs.Places.{most_places}
use Rattle.attempt.specs.declared.inner.Find.{Find}
use Rattle.attempt.specs.declared.inner.Miss.{Miss}
use Rattle.attempt.specs.declared.inner.Walk.{Walk}
use Rattle.record.specs.Places.{places_from, type_places}
use Rattle.record.specs.Value.{Length, body_length}
use Rattle.sheet.specs.declared.columns.Column.{Column}
use Rattle.sheet.specs.declared.columns.Column.TheVariants.{Body}
use Rattle.sheet.specs.Limits.{most_header}

-- 1 where the type suits the hint at k
abbrev pub suits_at : List ℕ → ℕ → ℕ → ℕ
suits_at hints k t = suited (drop k hints) (t ∷ [])

-- no total of bodies is told from one above this, and a reserved type's body is as long
abbrev pub too_long : ℕ
too_long = 65537

abbrev pub size_or : Length → ℕ
size_or (Some n) = n
size_or None = too_long

unfoldable pub body_size : ℕ → ℕ
body_size t = size_or (body_length t)

-- the total of the bodies before, and of those of a list of types
unfoldable pub total_from : ℕ → List ℕ → ℕ
total_from total [] = total
total_from total (t ∷ ts) = total_from (min too_long (total + body_size t)) ts

-- bodies one behind the other, wherever they end
abbrev pub columns_at : ℕ → List ℕ → List Column
columns_at at [] = []
columns_at at (t ∷ ts) = Body t at (body_size t) ∷ columns_at (at + body_size t) ts

abbrev pub sizes : List ℕ → ℕ
sizes [] = 0
sizes (t ∷ ts) = body_size t + sizes ts

-- where reading the types stopped
abbrev pub reach : List ℕ → Types → ℕ
reach s (ended at) = at
reach s cut = length s
reach s (kind t rest) = reach s rest

-- the types of the header of h bytes at o that stand behind `from`
abbrev pub header_types : List ℕ → ℕ → ℕ → ℕ → Types
header_types s o h from = types_from h s from (o + h)

-- ---- what the functions ask and give

-- a header of h bytes at o lies in the region, and its types start at `from`, behind its own number if that stands there
pub record Headed (s : List ℕ) (o h from : ℕ) : Type 0 where
  pub low : 1 ≤ h
  pub high : h ≤ most_header
  pub inside : o + h ≤ length s
  pub past : o ≤ from
  pub near : from ≤ o + 9
  pub within : from ≤ length s

-- reading the types of w ends where reading on from `at` does, with fuel for what is left
unfoldable pub Ends : List ℕ → Types → ℕ → ℕ → Type 0
Ends s w at stop = (f : ℕ) × (stop ≤ at + f) × (reach s w ≡ reach s (types_from f s at stop))

-- true says that types that are whole are other than n
abbrev pub Miscounted : Types → ℕ → Bool → Type 0
Miscounted ts n true = is_whole ts ≡ true → length (kinds ts) ≡ n → ⊥
Miscounted ts n false = Unit

-- p is the definition's mark of them
pub record WholeIs (s hints : List ℕ) (ts : Types) (p : Bool) (count matched total end : ℕ) (padded : Bool) : Type 0 where
  pub is_whole_lem : is_whole ts ≡ true
  pub counts : length (kinds ts) ≡ count
  pub matches : suited hints (kinds ts) ≡ matched
  pub totals : total_from 0 (kinds ts) ≡ total
  pub ends : reach s ts ≡ end
  pub marks : p ≡ padded

abbrev pub Walked : List ℕ → List ℕ → Types → Bool → Option Walk → Type 0
Walked s hints ts p (Some w) = WholeIs s hints ts p w.count w.matched w.total w.end w.padded
Walked s hints ts p None = is_whole ts ≡ false

-- the types of a row that was found, and the row
abbrev pub find_types : List ℕ → ℕ → Find → Types
find_types s o x = header_types s o x.head x.from

abbrev pub found_at : List ℕ → ℕ → Find → Found
found_at s o x =
    record {
      consumed = x.consumed;
      matched = x.matched;
      columns = columns_at (o + x.head) (kinds (find_types s o x));
      padded = x.padded;
    }

-- what an attempt gives: t is what it finds, p its header places
pub record MissIs (t : Tried) (p : List ℕ) (read : ℕ) : Type 0 where
  pub misses : t ≡ miss
  pub counts : length p ≡ read
  pub few : read ≤ most_places

pub record HitIs (s hints : List ℕ) (o : ℕ) (t : Tried) (p : List ℕ) (x : Find) : Type 0 where
  pub hits : t ≡ hit (found_at s o x)
  pub counts : length p ≡ x.read
  pub few : x.read ≤ most_places
  pub columns : length (kinds (find_types s o x)) ≡ length hints
  pub bodies : x.head + sizes (kinds (find_types s o x)) ≡ x.consumed
  pub inside : o + x.consumed ≤ length s
  pub headed : Headed s o x.head x.from

abbrev pub Tells : List ℕ → List ℕ → ℕ → Tried → List ℕ → Result Find Miss → Type 0
Tells s hints o t p (Err x) = MissIs t p x.read
Tells s hints o t p (Ok x) = HitIs s hints o t p x

-- what a header makes whose types stand behind `from` and whose mark is p
abbrev pub judged_header : List ℕ → List ℕ → ℕ → ℕ → ℕ → Bool → Tried
judged_header s hints o h from p = judged_whole (length s) hints o h p (header_types s o h from)

-- its places are those of its own number and of the types
abbrev pub Judged : List ℕ → List ℕ → ℕ → ℕ → ℕ → Bool → Result Find Miss → Type 0
Judged s hints o h from p v =
    Tells s hints o (judged_header s hints o h from p) (places_from o (from - o) ++ type_places h s from (o + h)) v
