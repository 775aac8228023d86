-- The lists that a call is lent, as oracle/README.md has them: before it each cell tells its place.
-- Assumes nothing.
use Rattle.std.specs.Prelude.{◌≡◌, ◌+◌, ◌*◌, ◌/◌, ◌%◌, ◌^◌, ◌<◌, [], ◌∷◌, ◌++◌, ◌==◌}
use Rattle.std.specs.Prelude.{ℕ, zero, suc, min, Bool, false, cond, List, length, take, bit_xor, slice_index}
use Rattle.std.specs.List.{HoldsAt}
use Rattle.cases.specs.Layout.{word_at}
use Rattle.cases.specs.declared.lists.Cells.{Cells}
use Rattle.sheet.specs.Limits.{words_per_row, words_per_entry}

abbrev pub fresh_word : ℕ → ℕ
fresh_word i = (0x5EED000000000000 + i) % 2 ^ 64

abbrev pub fresh_byte : ℕ → ℕ
fresh_byte i = 200 + i % 50

-- whether a cell holds what it held before the call; `out` has no such cells
abbrev pub fresh_in : Cells → ℕ → ℕ → Bool
fresh_in Cells.Out i cell = false
fresh_in Cells.Bytes i cell = cell == fresh_byte i
fresh_in Cells.Words i cell = cell == fresh_word i
fresh_in Cells.Rows i cell = cell == fresh_word i
fresh_in Cells.Entries i cell = cell == fresh_word i

-- 1 where the call changed the cell, and how many of the first n cells it changed, and of all
abbrev pub touched_in : Cells → ℕ → ℕ → ℕ
touched_in of i cell = cond (fresh_in of i cell) 0 1

unfoldable pub changed_below : Cells → List ℕ → ℕ → ℕ
changed_below of list zero = 0
changed_below of list (suc n) = changed_below of list n + touched_in of n (slice_index list n)

abbrev pub changed_in : Cells → List ℕ → ℕ
changed_in of list = changed_below of list (length list)

-- a fold over cells, in words of 64 bits: a step, the first n steps, and all
unfoldable pub fold_step : ℕ → ℕ → ℕ
fold_step fold cell =
    let sum = (fold + cell) % 2 ^ 64 in
    let spread = (sum + sum * 2 ^ 10 % 2 ^ 64) % 2 ^ 64 in
    bit_xor spread (spread / 2 ^ 6)

unfoldable pub fold_below : List ℕ → ℕ → ℕ
fold_below list zero = 0
fold_below list (suc n) = fold_step (fold_below list n) (slice_index list n)

abbrev pub fold_of : List ℕ → ℕ
fold_of list = fold_below list (length list)

-- whether a row or an entry starts there
abbrev pub starts_in : Cells → ℕ → Bool
starts_in Cells.Rows i = i % words_per_row == 0
starts_in Cells.Entries i = i % words_per_entry == 0
starts_in Cells.Bytes i = false
starts_in Cells.Words i = false
starts_in Cells.Out i = false

-- the i-th word of a slice of words, and the i-th byte of a list
abbrev pub word_in : List ℕ → ℕ → ℕ
word_in s i = word_at s (8 * i)

abbrev pub byte_in : List ℕ → ℕ → ℕ
byte_in s i = slice_index s i

-- the first n values of f
unfoldable pub cells_by : (ℕ → ℕ) → ℕ → List ℕ
cells_by f zero = []
cells_by f (suc n) = cells_by f n ++ (f n ∷ [])

-- as many cells as are asked, or as there are, hold the values of f
abbrev pub FilledBy : (ℕ → ℕ) → ℕ → List ℕ → ℕ → Type 0
FilledBy f asked list n = (n ≡ min asked (length list)) × (take n list ≡ cells_by f n)

-- as many cells as are asked, or as there are, and at each place one that P has for it
abbrev pub FilledEach : {X : Type 0} → (ℕ → X → Type 0) → ℕ → List X → ℕ → Type 0
FilledEach P asked list n = (n ≡ min asked (length list)) × ((i : ℕ) → i < n → HoldsAt (P i) list i)
