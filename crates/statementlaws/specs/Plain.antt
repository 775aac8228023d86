-- Statements in which the two readings have nothing to part over, and lists of which one has all hints of the other.
-- Assumes nothing.
use Rattle.std.specs.Prelude.{ℕ, Bool, true, not, ◌&&◌, List, [], ◌∷◌}
use Rattle.words.specs.Words.{bytes, trim, pieces, holds}
use Rattle.column.specs.Column.{begins_as_constraint}
use Rattle.readings.specs.Statement.{between}

-- a piece that neither holds KEY nor begins with the letters of a constraint
abbrev pub is_plain : List ℕ → Bool
is_plain p = not (holds (bytes "KEY") p) && not (begins_as_constraint p)

-- pieces that are all so, trimmed
unfoldable pub are_plain : List (List ℕ) → Bool
are_plain [] = true
are_plain (p ∷ ps) = is_plain (trim p) && are_plain ps

-- a statement whose pieces are
abbrev pub plain_statement : List ℕ → Bool
plain_statement s = are_plain (pieces (between s))

-- the first list is the second, or that with some left out
pub data LeftOf : List ℕ → List ℕ → Type 0 where
  none : LeftOf [] []
  kept : (h : ℕ) {hs all : List ℕ} → LeftOf hs all → LeftOf (h ∷ hs) (h ∷ all)
  out : (h : ℕ) {hs all : List ℕ} → LeftOf hs all → LeftOf hs (h ∷ all)
