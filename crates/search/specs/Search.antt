-- Where a pattern stands in a haystack, and what a search answers and writes.
-- Assumes nothing.
use Rattle.std.specs.Prelude.{ℕ, zero, suc, Bool, true, false, cond, ◌&&◌, List, [], ◌∷◌, ◌++◌, eqb, ltb, length, drop}
use Rattle.sheet.specs.Filled.{ListFilling}
use Rattle.sheet.specs.Limits.{largest_region}
use Rattle.sheet.specs.Refusal.{Check, first_held}
use Rattle.sheet.specs.declared.refusal.Refusal.TheVariants.{TooLarge}

-- ---- places

-- the bytes begin with the pattern
unfoldable pub matches : List ℕ → List ℕ → Bool
matches [] bytes = true
matches (p ∷ pattern) [] = false
matches (p ∷ pattern) (b ∷ bytes) = eqb p b && matches pattern bytes

-- Rule 7.1: the pattern stands in the haystack at the offset o
unfoldable pub stands_at : List ℕ → List ℕ → ℕ → Bool
stands_at haystack pattern o = matches pattern (drop o haystack)

-- the offset o, if it is a place
unfoldable pub place_at : List ℕ → List ℕ → ℕ → List ℕ
place_at haystack pattern o = cond (stands_at haystack pattern o) (o ∷ []) []

-- the places below n, rising
unfoldable pub places_below : List ℕ → List ℕ → ℕ → List ℕ
places_below haystack pattern zero = []
places_below haystack pattern (suc n) = places_below haystack pattern n ++ place_at haystack pattern n

-- Rule 7.1: all places, rising, overlapping ones too; an empty pattern has none
unfoldable pub places_of : List ℕ → List ℕ → List ℕ
places_of haystack [] = []
places_of haystack (p ∷ pattern) = places_below haystack (p ∷ pattern) (length haystack)

-- ---- the call

-- Rule 7.1: a haystack is a region, and may be too large for one
abbrev pub too_large : List ℕ → Bool
too_large haystack = ltb largest_region (length haystack)

-- the check that leaves the list as it was
abbrev pub search_checks : List ℕ → List Check
search_checks haystack = record { refusal = TooLarge; holds = too_large haystack } ∷ []

-- what its answer rests on, with such a list lent
abbrev pub search_filling : List ℕ → List ℕ → List ℕ → ListFilling
search_filling haystack pattern old =
    record { checked = first_held (search_checks haystack); things = places_of haystack pattern; old = old }
