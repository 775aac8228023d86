-- Runs: bytes of one kind, one behind the other, at the front or at the end of a list.
-- Assumes nothing.
use Rattle.std.specs.Prelude.{ℕ, ◌%◌, Bool, false, cond, not, ◌&&◌, ◌||◌, List, [], ◌∷◌, reverse, leb, eqb, drop}
use Rattle.words.specs.declared.runs.Run.{Run}
use Rattle.words.specs.declared.runs.Run.TheVariants.{Blanks, Word, Until, Unlike}

-- Rule 6.1: blanks are the bytes 9 to 13 and 32
unfoldable pub is_blank : ℕ → Bool
is_blank b = leb 9 b && leb b 13 || eqb b 32

-- a byte of a word
abbrev pub in_word : ℕ → Bool
in_word b = not (is_blank b)

-- a byte that is not x
abbrev pub is_not : ℕ → ℕ → Bool
is_not x b = not (eqb b x)

-- a byte that cannot be the capital letter x, raised: a letter and its capital are 32 apart
abbrev pub is_unlike : ℕ → ℕ → Bool
is_unlike x b = not (eqb (b % 32) (x % 32))

-- the bytes of a run
abbrev pub in_run : Run → ℕ → Bool
in_run Blanks = is_blank
in_run Word = in_word
in_run (Until x) = is_not x
in_run (Unlike x) = is_unlike x

-- the bytes before the first that fails the test
unfoldable pub take_while : (ℕ → Bool) → List ℕ → List ℕ
take_while p [] = []
take_while p (b ∷ s) = cond (p b) (b ∷ take_while p s) []

-- the bytes from the first that fails the test
unfoldable pub drop_while : (ℕ → Bool) → List ℕ → List ℕ
drop_while p [] = []
drop_while p (b ∷ s) = cond (p b) (drop_while p s) (b ∷ s)

-- the bytes up to the last that fails the test
abbrev pub drop_while_end : (ℕ → Bool) → List ℕ → List ℕ
drop_while_end p s = reverse (drop_while p (reverse s))

-- whether x stands in s
unfoldable pub has : ℕ → List ℕ → Bool
has x [] = false
has x (b ∷ s) = eqb b x || has x s

-- what stands behind the first x; nothing, where there is none
unfoldable pub behind_first : ℕ → List ℕ → List ℕ
behind_first x s = drop 1 (drop_while (is_not x) s)

-- what stands before the first x; all, where there is none
unfoldable pub before_first : ℕ → List ℕ → List ℕ
before_first x s = take_while (is_not x) s

-- what stands before the last x; nothing, where there is none
unfoldable pub before_last : ℕ → List ℕ → List ℕ
before_last x s = reverse (behind_first x (reverse s))
