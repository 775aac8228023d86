-- Places of a slice that a reader looks at (rule 2.4), and types one behind the other (rules 2.11 and 4.7).
-- Assumes nothing.
use Rattle.std.specs.Prelude.{ℕ, zero, suc, ◌+◌, ◌-◌, ◌≡◌, Bool, false, cond, ◌||◌, List, [], ◌∷◌, ◌++◌, ltb, length, get_or, Some, None}
use Rattle.record.specs.Varint.{Varint, varint_at}
use Rattle.record.specs.declared.varint.Cursor.{Cursor}

-- n places, from `at` on
abbrev pub places_from : ℕ → ℕ → List ℕ
places_from at zero = []
places_from at (suc n) = at ∷ places_from (at + 1) n

-- where reading a varint stopped: behind it, or at the slice's end where it runs off
abbrev pub stop_of : List ℕ → Varint → ℕ
stop_of s (Some (v, c)) = c.at
stop_of s None = length s

-- Rule 2.4: the bytes that reading the varint at `at` looks at
unfoldable pub varint_places : List ℕ → ℕ → List ℕ
varint_places s at = places_from at (stop_of s (varint_at s at) - at)

-- ---- types from `at` on, while the position is below stop; the last may run past it. The first argument bounds their number.

-- the bytes that reading them looks at
abbrev pub places_on : Varint → (ℕ → List ℕ) → List ℕ
places_on (Some (t, c)) rest = rest c.at
places_on None rest = []

unfoldable pub type_places : ℕ → List ℕ → ℕ → ℕ → List ℕ
type_places zero s at stop = []
type_places (suc f) s at stop = cond (ltb at stop) (varint_places s at ++ places_on (varint_at s at) (λ next. type_places f s next stop)) []

-- Rule 2.11: whether one of them is padded
abbrev pub padded_on : Varint → (ℕ → Bool) → Bool
padded_on (Some (t, c)) rest = c.padded || rest c.at
padded_on None rest = false

unfoldable pub types_padded : ℕ → List ℕ → ℕ → ℕ → Bool
types_padded zero s at stop = false
types_padded (suc f) s at stop = cond (ltb at stop) (padded_on (varint_at s at) (λ next. types_padded f s next stop)) false

-- Rule 2.11: and whether a number of a header is: its length, behind which c stands, or one of the types
abbrev pub header_padded : ℕ → List ℕ → Cursor → ℕ → Bool
header_padded f s c stop = c.padded || types_padded f s c.at stop

-- ---- two slices hold the same at every place of a list
abbrev pub AgreeAt : List ℕ → List ℕ → List ℕ → Type 0
AgreeAt x y [] = Unit
AgreeAt x y (p ∷ ps) = (get_or x p 0 ≡ get_or y p 0) × AgreeAt x y ps
