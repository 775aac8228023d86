-- One more type, one more row, and room for them.
-- Assumes nothing.
use Prim.Native.Nat.{ℕ, zero, suc, ◌+◌, ◌*◌, ◌≤◌, ◌<◌}
use mathlib.Core.Path.{◌≡◌, refl}
use mathlib.Core.List.{List, [], ◌∷◌, ◌++◌}
use native.Mathlib.Nat.{add-mul, one-mul, suc-mul, mul-add, mul_left_comm, mul-le-mul_right}
use native.Mathlib.Numerals.{add-one}
use native.Mathlib.Omega.{arith}
use lib.ListN.{get_or}
use Rattle.digits.specs.Digits.{decimal}
use Rattle.digits.specs.Inner.{most_field}
use Rattle.listing.specs.Inner.{most_numbers, most_line}
use Rattle.listing.specs.Part.{row_space, col_space, text_space}
use Rattle.listing.specs.Text.{type_text, types_text, line_text, rows_text}
use Rattle.sheet.proofs.Laws.{room_rows, room_cols}
use Rattle.sheet.specs.Columns.{room_of}
use Rattle.sheet.specs.Limits.{words_per_row, words_per_entry}

-- ---- one more

pub type_first : (kind : ℕ) → decimal kind ≡ type_text 0 kind
unfolding type_text
type_first kind = refl

pub type_next : (k kind : ℕ) → (k ≡ 0 → ⊥) → 44 ∷ decimal kind ≡ type_text k kind
unfolding type_text
type_next zero kind some = absurd (some refl)
type_next (suc k) kind some = refl

pub types_none : (cols : List ℕ) (group : ℕ) → types_text cols group 0 ≡ []
unfolding types_text
types_none cols group = refl

pub types_more : (cols : List ℕ) (group k : ℕ) → types_text cols group (k + 1) ≡ types_text cols group k ++ type_text k (get_or cols (group + words_per_entry * k + 1) 0)
unfolding types_text
types_more cols group k = rw (add-one k)

pub rows_none : (rows cols : List ℕ) (width : ℕ) → rows_text rows cols width 0 ≡ []
unfolding rows_text
rows_none rows cols width = refl

pub rows_more : (rows cols : List ℕ) (width n : ℕ) → rows_text rows cols width (n + 1) ≡ rows_text rows cols width n ++ line_text rows cols width n
unfolding rows_text
rows_more rows cols width n = rw add-one

-- ---- room

-- one more of m, and that n of count have it
pub one_more : (n m : ℕ) → (n + 1) * m ≡ n * m + m
one_more n m = rw (add-mul, one-mul)

pub has_room : (n count m : ℕ) → n < count → n * m + m ≤ count * m
has_room n count m h = rw (← (one_more n m)) (mul-le-mul_right m (omega arith))

-- THE LAW: rows that the lists hold have their words there, and the buffer holds their lines
pub room_holds : (width n : ℕ) → n ≤ room_of row_space col_space width →
    (n * most_line width ≤ text_space) × (n * words_per_row ≤ row_space) × (n * (words_per_entry * width) ≤ col_space)
room_holds width zero h = (omega arith, omega arith, omega arith)
room_holds width (suc m) h =
    let r = room_rows row_space col_space width m h in
    let c = room_cols row_space col_space width m h in
    let e = suc-mul m (most_line width) in
    let d = suc-mul m (words_per_entry * width) in
    let x = mul-add m (most_numbers + 1) (most_field * width) in
    let y = mul_left_comm m most_field width in
    let z = mul_left_comm m words_per_entry width in
    (omega arith, omega arith, omega arith)
