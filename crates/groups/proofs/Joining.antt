-- Laws of rows one behind the other: those of two blocks of words are those of the first and those of the second.
-- Assumes nothing.
use Prim.Native.Nat.{ℕ, zero, suc, ◌+◌, ◌*◌, ◌/◌, ◌≤◌, ◌<◌, max}
use mathlib.Core.Path.{◌≡◌, refl, sym, ap, ◌∙◌}
use mathlib.Core.Bool.{◌||◌, or_assoc}
use mathlib.Core.List.{List, [], ◌∷◌, ◌++◌}
use native.Mathlib.Nat.{suc-mul, suc-add, zero-add, add-mul-div_right}
use native.Mathlib.Omega.{arith}
use lib.ListN.{length, drop, length-append, length-drop, get_or-append}
use lib.Seq.{drop-append-le}
use Rattle.record.specs.declared.entry.Entry.{Entry}
use Rattle.sheet.specs.Limits.{words_per_entry}
use Rattle.sheet.specs.Sheet.{entry_in, entries_in}
use Rattle.groups.specs.Rows.{rows_in, rows_of, longest, bad_row, bad_rows}

-- ---- rows
pub bad_append : (s : List ℕ) (x y : List (List Entry)) → bad_rows s (x ++ y) ≡ (bad_rows s x || bad_rows s y)
unfolding bad_rows
bad_append s [] y = refl
bad_append s (r ∷ x) y = rw (bad_append s x y) (sym (or_assoc (bad_row s r) (bad_rows s x) (bad_rows s y)))

pub longest_append : (x y : List (List Entry)) → longest (x ++ y) ≡ max (longest x) (longest y)
unfolding longest
longest_append [] y = omega arith
longest_append (r ∷ x) y = omega (arith, longest_append x y)

-- ---- words
entry_append : (a b : List ℕ) → words_per_entry ≤ length a → entry_in (a ++ b) ≡ entry_in a
entry_append a b h =
    rw (get_or-append a b 0 0 (omega arith), get_or-append a b 0 1 (omega arith), get_or-append a b 0 2 (omega arith), get_or-append a b 0 3 (omega arith))

entries_append : (n : ℕ) (a b : List ℕ) → words_per_entry * n ≤ length a → entries_in n (a ++ b) ≡ entries_in n a
entries_append zero a b h = refl
entries_append (suc n) a b h =
    rw (entry_append a b (omega arith), drop-append-le words_per_entry a b (omega arith))
    (ap (λ es. entry_in a ∷ es) (entries_append n (drop words_per_entry a) b (omega (arith, length-drop words_per_entry a))))

rows_append : (n m width : ℕ) (a b : List ℕ) → length a ≡ n * (words_per_entry * width) → rows_in (n + m) width (a ++ b) ≡ rows_in n width a ++ rows_in m width b
unfolding rows_in
rows_append zero m width [] b h = rw zero-add
rows_append zero m width (x ∷ a) b h = absurd (omega arith)
rows_append (suc n) m width a b h =
    let group = words_per_entry * width in
    let more : suc n * group ≡ n * group + group = suc-mul n group in
    rw (suc-add, entries_append width a b (omega arith), drop-append-le group a b (omega arith))
    (ap (λ rows. entries_in width a ∷ rows) (rows_append n m width (drop group a) b (omega (arith, length-drop group a))))

-- a block of n whole rows; one row is a block, too
abbrev pub Rows : ℕ → List ℕ → ℕ → Type 0
Rows width words n = length words ≡ n * (words_per_entry * width)

module _ (width : ℕ) (some : 0 < width) where
  -- THE LAW: behind a block of whole rows stand those of the rest
  pub rows_of-append : (n : ℕ) (a b : List ℕ) → Rows width a n → rows_of width (a ++ b) ≡ rows_in n width a ++ rows_of width b
  unfolding rows_of
  rows_of-append n a b h =
      let group = words_per_entry * width in
      let count : length (a ++ b) / group ≡ n + length b / group =
      rw (length-append a b, h) (ap (λ k. k / group) (omega arith) ∙ add-mul-div_right (length b) n (omega arith) ∙ omega arith) in
      rw count (rows_append n (length b / group) width a b h)
