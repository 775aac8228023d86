-- What carvelist prints (rule 8.3), as lists of ASCII bytes.
-- Assumes nothing.
use Rattle.std.specs.Prelude.{ℕ, zero, suc, ◌+◌, ◌*◌, List, [], ◌∷◌, ◌++◌, get_or}
use Rattle.digits.specs.Digits.{decimal, field, hex8}
use Rattle.sheet.specs.Limits.{words_per_row, words_per_entry}

-- the type of the column k, behind a comma if it is not the first
unfoldable pub type_text : ℕ → ℕ → List ℕ
type_text zero kind = decimal kind
type_text (suc k) kind = 44 ∷ decimal kind

-- the types of n entries whose words start at `group`; the type is an entry's second word
unfoldable pub types_text : List ℕ → ℕ → ℕ → List ℕ
types_text cols group zero = []
types_text cols group (suc k) = types_text cols group k ++ type_text k (get_or cols (group + words_per_entry * k + 1) 0)

-- offset, bytes consumed and confidence bits of the row n, its words 0, 1 and 6, each with the blank behind it
unfoldable pub numbers_text : List ℕ → ℕ → List ℕ
numbers_text rows n =
    field (get_or rows (n * words_per_row) 0)
    ++ field (get_or rows (n * words_per_row + 1) 0)
    ++ hex8 (get_or rows (n * words_per_row + 6) 0)
    ++ 32 ∷ []

-- the row n of both lists: its numbers, its types, and a line end
unfoldable pub line_text : List ℕ → List ℕ → ℕ → ℕ → List ℕ
line_text rows cols width n = numbers_text rows n ++ types_text cols (n * (words_per_entry * width)) width ++ 10 ∷ []

-- the first n rows of both lists
unfoldable pub rows_text : List ℕ → List ℕ → ℕ → ℕ → List ℕ
rows_text rows cols width zero = []
rows_text rows cols width (suc n) = rows_text rows cols width n ++ line_text rows cols width n

-- `offset consumed confidence types`
unfoldable pub heading : List ℕ
heading =
    111 ∷ 102 ∷ 102 ∷ 115 ∷ 101 ∷ 116 ∷ 32
    ∷ 99 ∷ 111 ∷ 110 ∷ 115 ∷ 117 ∷ 109 ∷ 101 ∷ 100 ∷ 32
    ∷ 99 ∷ 111 ∷ 110 ∷ 102 ∷ 105 ∷ 100 ∷ 101 ∷ 110 ∷ 99 ∷ 101 ∷ 32
    ∷ 116 ∷ 121 ∷ 112 ∷ 101 ∷ 115 ∷ 10
    ∷ []

-- `rows N read M`
unfoldable pub totals_line : ℕ → ℕ → List ℕ
totals_line rows read =
    (114 ∷ 111 ∷ 119 ∷ 115 ∷ 32 ∷ [] ++ decimal rows)
    ++ (32 ∷ 114 ∷ 101 ∷ 97 ∷ 100 ∷ 32 ∷ [] ++ decimal read)
    ++ 10 ∷ []

-- `refused N`
unfoldable pub refusal_line : ℕ → List ℕ
refusal_line n = 114 ∷ 101 ∷ 102 ∷ 117 ∷ 115 ∷ 101 ∷ 100 ∷ 32 ∷ [] ++ decimal n ++ 10 ∷ []
