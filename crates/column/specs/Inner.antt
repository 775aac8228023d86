-- What the code of `column` carries besides the definitions.
-- Assumes nothing.
use Rattle.std.specs.Prelude.{ℕ, List, [], ◌∷◌, Option, Some, None}

-- what a piece gives, as the list of its hints
abbrev pub given_hints : Option ℕ → List ℕ
given_hints (Some h) = h ∷ []
given_hints None = []
