-- How bytes are read as words: raised letters, keywords, pieces between commas.
-- Assumes nothing.
use Prim.Native.Char.{code}
use Rattle.std.specs.Prelude.{ℕ, zero, suc, ◌-◌, Bool, true, false, cond, ◌&&◌, ◌||◌, List, [], ◌∷◌, leb, eqb, length}
use Prim.Native.String.{String, [] as end, ◌∷◌ as ◌then◌}
use Rattle.words.specs.Runs.{is_blank, in_word, take_while, drop_while, drop_while_end}

-- the bytes of a text in ASCII
abbrev pub bytes : String → List ℕ
bytes end = []
bytes (c then cs) = code c ∷ bytes cs

-- Rule 6.2: a to z are raised to A to Z, and no other byte is
unfoldable pub raise : ℕ → ℕ
raise b = cond (leb 97 b && leb b 122) (b - 32) b

-- without the blanks at both ends
unfoldable pub trim : List ℕ → List ℕ
trim s = drop_while_end is_blank (drop_while is_blank s)

-- what parts the pieces
abbrev pub comma : ℕ
comma = code ","

-- what opens a round bracket
abbrev pub opening : ℕ
opening = code "("

-- what closes it
abbrev pub closing : ℕ
closing = code ")"

-- a byte at the front of the first piece
abbrev pub into_first : ℕ → List (List ℕ) → List (List ℕ)
into_first b [] = (b ∷ []) ∷ []
into_first b (p ∷ ps) = (b ∷ p) ∷ ps

-- Rule 6.1: split at every comma, so there is one piece more than commas
unfoldable pub pieces : List ℕ → List (List ℕ)
pieces [] = [] ∷ []
pieces (b ∷ s) = cond (eqb b comma) ([] ∷ pieces s) (into_first b (pieces s))

-- the first of the words that blanks part
unfoldable pub first_word : List ℕ → List ℕ
first_word s = take_while in_word (drop_while is_blank s)

-- the first word of what stands behind the first word; nothing, where there is none
unfoldable pub second_word : List ℕ → List ℕ
second_word s = first_word (drop_while in_word (drop_while is_blank s))

-- what stands behind the first word
unfoldable pub behind_word : List ℕ → List ℕ
behind_word s = drop_while in_word (drop_while is_blank s)

-- the word behind so many others; nothing, where there is none
unfoldable pub word_behind : ℕ → List ℕ → List ℕ
word_behind zero s = first_word s
word_behind (suc k) s = word_behind k (behind_word s)

-- whether s, raised, starts with the word w
unfoldable pub starts_with : List ℕ → List ℕ → Bool
starts_with [] s = true
starts_with (w ∷ ws) [] = false
starts_with (w ∷ ws) (b ∷ s) = eqb (raise b) w && starts_with ws s

-- whether s, raised, is the word w
unfoldable pub equals : List ℕ → List ℕ → Bool
equals w s = eqb (length s) (length w) && starts_with w s

-- whether the word w stands anywhere in s, raised
unfoldable pub holds : List ℕ → List ℕ → Bool
holds w [] = starts_with w []
holds w (b ∷ s) = starts_with w (b ∷ s) || holds w s

-- a keyword that a text starts with, or is
pub data Keyword : Type 0 where
  starting : String → Keyword
  whole : String → Keyword

-- whether s, raised, starts with the keyword, or is it
abbrev pub meets : Keyword → List ℕ → Bool
meets (starting w) s = starts_with (bytes w) s
meets (whole w) s = equals (bytes w) s

-- whether it meets one of the keywords, or did one before them
abbrev pub meets_more : Bool → List Keyword → List ℕ → Bool
meets_more before [] s = before
meets_more before (k ∷ ks) s = meets_more (before || meets k s) ks s

-- whether it meets one of the keywords
abbrev pub meets_one : List Keyword → List ℕ → Bool
meets_one keywords s = meets_more false keywords s
