-- The serial type that a value counts as in learning, and the commonest of the types of a column.
-- Assumes nothing.
use Rattle.std.specs.Prelude.{ℕ, ◌+◌, ◌*◌, ◌^◌, ◌≤◌, ◌<◌, min, ◌≡◌, Bool, false, cond, List, [], ◌∷◌, ltb, eqb, ℤ, pos, negsuc}
use Rattle.record.specs.declared.record.Value.{Value}
use Rattle.record.specs.declared.record.Value.TheVariants.{Null, Int, Real, Text, Blob}

-- ---- the type of a value

-- 0 and 1
abbrev pub is_bit : ℤ → Bool
is_bit (pos n) = ltb n 2
is_bit (negsuc n) = false

-- whether a number is from -(2 ^ k) up to 2 ^ k - 1; negsuc n is -1 - n
abbrev pub within : ℕ → ℤ → Bool
within k (pos n) = ltb n (2 ^ k)
within k (negsuc n) = ltb n (2 ^ k)

-- Rule 13.2: the first of the types 1, 2, 3, 4 whose 8, 16, 24 or 32 bits hold a number, or else 6; 5 is passed over
unfoldable pub width_type : ℤ → ℕ
width_type z = cond (within 7 z) 1 (cond (within 15 z) 2 (cond (within 23 z) 3 (cond (within 31 z) 4 6)))

-- Rule 13.2: 0 and 1 count as 8
unfoldable pub integer_type : ℤ → ℕ
integer_type z = cond (is_bit z) 8 (width_type z)

-- Rule 13.2: the type of a value, which need not be the one that it was read with
unfoldable pub value_type : Value → ℕ
value_type Null = 0
value_type (Int z) = integer_type z
value_type (Real x) = 7
value_type (Text at n) = 13 + 2 * n
value_type (Blob at n) = 12 + 2 * n

-- ---- the commonest type

-- how often a type occurs
unfoldable pub count_in : ℕ → List ℕ → ℕ
count_in t [] = 0
count_in t (u ∷ us) = cond (eqb t u) 1 0 + count_in t us

-- Rule 13.3: it occurs, no other occurs more often, and none that occurs as often is smaller
pub record IsCommonest (t : ℕ) (ts : List ℕ) : Type 0 where
  pub occurs : 0 < count_in t ts
  pub most : (u : ℕ) → count_in u ts ≤ count_in t ts
  pub smallest : (u : ℕ) → count_in u ts ≡ count_in t ts → t ≤ u

-- which of two comes first: the one that occurs more often, or the smaller
unfoldable pub better : List ℕ → ℕ → ℕ → ℕ
better ts t u = cond (ltb (count_in t ts) (count_in u ts)) u (cond (ltb (count_in u ts) (count_in t ts)) t (min t u))

-- the best of a type and some more
unfoldable pub best_of : List ℕ → ℕ → List ℕ → ℕ
best_of ts t [] = t
best_of ts t (u ∷ us) = best_of ts (better ts t u) us

-- the commonest of all: where 0 does not occur, every type that does comes before it. Of no types it is 0
unfoldable pub commonest_of : List ℕ → ℕ
commonest_of ts = best_of ts 0 ts
