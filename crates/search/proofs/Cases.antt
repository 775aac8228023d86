-- Worked cases of the search as one table that is computed at once, and the case that is too large to compute.
-- Assumes nothing.
use Prim.Native.Nat.{ℕ, ◌<◌}
use mathlib.Core.Path.{◌≡◌, refl}
use mathlib.Core.List.{List, [], ◌∷◌, map}
use borrow.Author.Tests.{lt-ltb}
use lib.ListN.{length, replicate}
use Rattle.sheet.specs.Filled.{list_number, list_written, list_left}
use Rattle.sheet.specs.Limits.{largest_region}
use Rattle.search.specs.Search.{matches, stands_at, place_at, places_below, places_of, search_filling}

-- the paper's number, how many places are written, and what the list holds
record Outcome : Type 0 where
  number : ℕ
  written : ℕ
  places : List ℕ

-- a haystack, a pattern and a list, with what must come of them
data Case : Type 0 where
  seek : List ℕ → List ℕ → List ℕ → Outcome → Case

out : ℕ → ℕ → List ℕ → Outcome
out n k l = record { number = n; written = k; places = l }

found : List ℕ → List ℕ → List ℕ → Outcome
found haystack pattern old =
    let a = search_filling haystack pattern old in
    out (list_number a) (list_written a) (list_left a)

computed : Case → Outcome
computed (seek haystack pattern old o) = found haystack pattern old

expected : Case → Outcome
expected (seek haystack pattern old o) = o

-- so many times the letter a
a : ℕ → List ℕ
a n = replicate n 97

cases : List Case
cases =
    seek (a 4) (a 3) (7 ∷ 7 ∷ 7 ∷ []) (out 0 2 (0 ∷ 1 ∷ 7 ∷ []))
    ∷ seek (a 4) (a 3) (7 ∷ 7 ∷ []) (out 0 2 (0 ∷ 1 ∷ []))
    ∷ seek (a 4) (a 3) (7 ∷ []) (out 9 1 (0 ∷ []))
    ∷ seek (a 4) (a 3) [] (out 9 0 [])
    ∷ seek (a 3) (a 3) (7 ∷ []) (out 0 1 (0 ∷ []))
    ∷ seek (a 3) (a 4) (7 ∷ []) (out 0 0 (7 ∷ []))
    ∷ seek (a 3) [] (7 ∷ []) (out 0 0 (7 ∷ []))
    ∷ seek [] [] [] (out 0 0 [])
    ∷ seek (1 ∷ 2 ∷ 3 ∷ 1 ∷ 2 ∷ []) (1 ∷ 2 ∷ []) (7 ∷ 7 ∷ 7 ∷ []) (out 0 2 (0 ∷ 3 ∷ 7 ∷ []))
    ∷ seek (1 ∷ 2 ∷ 1 ∷ 3 ∷ []) (1 ∷ 3 ∷ []) (7 ∷ []) (out 0 1 (2 ∷ []))
    ∷ []

table : map computed cases ≡ map expected cases
unfolding cases a found out computed expected list_number list_written list_left places_of places_below place_at stands_at matches
table = refl

-- a haystack above the limit is refusal 3, and the list keeps what it held
too_large_lem : (haystack pattern old : List ℕ) → largest_region < length haystack → found haystack pattern old ≡ out 3 0 old
unfolding found list_number list_written list_left
too_large_lem haystack pattern old h = simp (lt-ltb largest_region (length haystack) h)
