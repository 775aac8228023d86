-- What other crates rest on: they cite these laws and unfold no definition of this one.
-- Assumes nothing.
use Rattle.std.specs.Prelude.{Err, Ok, Result}
use Prim.Native.Nat.{ℕ, zero, suc, ◌+◌, ◌*◌, ◌/◌, ◌≤◌, ◌<◌, min}
use mathlib.Core.Path.{◌≡◌, refl, sym, ap, ◌∙◌}
use mathlib.Core.Bool.{Bool, true, false, cond, ◌||◌, and-eq-true_iff}
use mathlib.Core.List.{List, [], ◌∷◌, ◌++◌, append_assoc}
use native.Mathlib.Nat.{add-zero, zero-add, add-suc, suc-add, suc-mul, min-le_left, min-le_right, min-eq_left, min-eq_right, le_of_lt, le_trans, le-div_iff_mul-le, div-div-eq-div-mul}
use native.Mathlib.Numerals.{add-one}
use native.Mathlib.Omega.{arith}
use borrow.Author.Tests.{leb-true, ltb-false, not-false, ne_eqb, le-leb, lt-leb, le-ltb, lt-ltb}
use lib.Dec.{leb, eqb, lit≤}
use lib.Ieee.{Float}
use lib.ListN.{length, take, drop, set, get_or, length-append, length-drop}
use lib.Seq.{sets, sets-eq, take-append_seam, drop-append-add, drop-cons, drop-drop}
use Rattle.record.proofs.Numbers.{by_order}
use Rattle.record.specs.Entry.{bad_number}
use Rattle.sheet.specs.Columns.{column_words, unused_words, room_of}
use Rattle.sheet.specs.Filled.{filled_number, filled_written, filled_by, number_after, written_after}
use Rattle.sheet.specs.Limits.{most_columns, words_per_row, words_per_entry, largest_region, largest_base, highest_hint, count_fits, hints_known}
use Rattle.sheet.specs.Refusal.{refusal_number, Check, first_held, after}
use Rattle.sheet.specs.Row.{row_words}
use Rattle.sheet.specs.Sheet.{overlay, rows_words, columns_words}
use Rattle.sheet.specs.Slice.{slice_checks, counted_checks}
use Rattle.sheet.specs.declared.columns.Column.{Column}
use Rattle.sheet.specs.declared.columns.Column.TheVariants.{Body, Unfit, Lost, Unused}
use Rattle.sheet.specs.declared.filled.Filled.{Filled}
use Rattle.sheet.specs.Refusal.{Checked}
use Rattle.sheet.specs.declared.refusal.Refusal.{Refusal}
use Rattle.sheet.specs.declared.refusal.Refusal.TheVariants.{ColumnCount, Malformed, TooLarge, BaseTooFar, PageSize, NoSuchPage, NoColumnList, WalkSpace, NoRoom}
use Rattle.sheet.specs.declared.row.Mode.{Mode}
use Rattle.sheet.specs.declared.row.Row.{Row}
use Rattle.sheet.specs.Row.{RowId}
use Rattle.sheet.specs.declared.row.Source.{Source}

-- of two tests that do not hold together, neither does
pub neither : (a b : Bool) → (a || b) ≡ false → (a ≡ false) × (b ≡ false)
neither true b e = let z : ◌≡◌ {A = ℕ} 0 1 = cc in absurd (omega arith)
neither false b e = (refl, e)

-- words written from the front are laid over what the list held
pub laid_over : (ws l : List ℕ) → length ws ≤ length l → sets l 0 ws ≡ overlay ws l
laid_over ws l h = sets-eq ws l 0 (omega arith) ∙ ap (λ (k : ℕ). ws ++ drop k l) (zero-add (length ws))

-- ---- refusals and hints
-- the number that `record`, below this crate, has of its own
pub bad_number_lem : bad_number ≡ refusal_number Malformed
bad_number_lem = refl

-- THE LAW: refusals are numbered from 1 to 9, which is why 0 can stand for none
pub number_range : (r : Refusal) → (1 ≤ refusal_number r) × (refusal_number r ≤ 9)
number_range ColumnCount = (lit≤ tt, lit≤ tt)
number_range Malformed = (lit≤ tt, lit≤ tt)
number_range TooLarge = (lit≤ tt, lit≤ tt)
number_range BaseTooFar = (lit≤ tt, lit≤ tt)
number_range PageSize = (lit≤ tt, lit≤ tt)
number_range NoSuchPage = (lit≤ tt, lit≤ tt)
number_range NoColumnList = (lit≤ tt, lit≤ tt)
number_range WalkSpace = (lit≤ tt, lit≤ tt)
number_range NoRoom = (lit≤ tt, lit≤ tt)

-- none of a call's checks holds
abbrev pub NoneHolds : List Check → Type 0
NoneHolds [] = Unit
NoneHolds (c ∷ cs) = (c.holds ≡ false) × NoneHolds cs

-- THE LAW: what passed has passed each check
pub none_holds : (cs : List Check) → first_held cs ≡ (Ok tt) → NoneHolds cs
none_holds [] e = tt
none_holds (c ∷ cs) e = go c.holds refl e (λ p. none_holds cs p)
  where
    go : (b : Bool) → c.holds ≡ b → cond b (Err c.refusal) (first_held cs) ≡ (Ok tt) → (first_held cs ≡ (Ok tt) → NoneHolds cs)
        → (c.holds ≡ false) × NoneHolds cs
    go true h e rest = let z : ◌≡◌ {A = ℕ} 0 1 = cc in absurd (omega arith)
    go false h e rest = (h, rest e)

-- THE LAW: a count that fits is from 1 to 510
pub count_fits_lem : (n : ℕ) → count_fits n ≡ true → (1 ≤ n) × (n ≤ most_columns)
unfolding count_fits
count_fits_lem n h =
    let b = (and-eq-true_iff (leb 1 n) (leb n most_columns)).0 h in
    (leb-true 1 n b.0, leb-true n most_columns b.1)

-- THE LAW: what passed the checks of a slice
pub record SliceFits (len columns base : ℕ) : Type 0 where
  pub small : len ≤ largest_region
  pub some : 1 ≤ columns
  pub few : columns ≤ most_columns
  pub near : base ≤ largest_base

pub slice_fits : (len : ℕ) (hints : List ℕ) (base : ℕ) → first_held (slice_checks len hints base) ≡ (Ok tt) → SliceFits len (length hints) base
slice_fits len hints base e =
    let n = none_holds (slice_checks len hints base) e in
    let k = count_fits_lem (length hints) (not-false _ n.0) in
    record { small = ltb-false largest_region len n.1.1.0; some = k.0; few = k.1; near = ltb-false largest_base base n.1.1.1.0 }

pub counted_fits : (len columns base : ℕ) → first_held (counted_checks len columns base) ≡ (Ok tt) → SliceFits len columns base
counted_fits len columns base e =
    let n = none_holds (counted_checks len columns base) e in
    let k = count_fits_lem columns (not-false _ n.0) in
    record { small = ltb-false largest_region len n.1.0; some = k.0; few = k.1; near = ltb-false largest_base base n.1.1.0 }

-- THE LAW: of known hints each is at most 5
pub hints_known_lem : (hs : List ℕ) → hints_known hs ≡ true → (i : ℕ) → get_or hs i 0 ≤ highest_hint
unfolding hints_known
hints_known_lem [] k i = lit≤ tt
hints_known_lem (h ∷ hs) k zero = leb-true h highest_hint ((and-eq-true_iff (leb h highest_hint) (hints_known hs)).0 k).0
hints_known_lem (h ∷ hs) k (suc i) = hints_known_lem hs ((and-eq-true_iff (leb h highest_hint) (hints_known hs)).0 k).1 i

-- ---- how many words there are
pub row_words-length : (r : Row) → length (row_words r) ≡ words_per_row
unfolding row_words
row_words-length r = refl

-- THE LAW: a row begins with its offset
pub row_words_offset : (r : Row) → row_words r ≡ r.offset ∷ drop 1 (row_words r)
unfolding row_words
row_words_offset r = refl

-- THE LAW: the mark is the ninth word, and no other
pub row_words_mark : (offset consumed : ℕ) (id : RowId) (source : Source) (confidence : Float) (mode : Mode) (table : ℕ) (p q : Bool) →
    let row : Bool → Row =
    λ m. record { offset = offset; consumed = consumed; id = id; source = source; confidence = confidence; mode = mode; table = table; padded = m } in
    (take 8 (row_words (row p)) ≡ take 8 (row_words (row q))) × (drop 8 (row_words (row p)) ≡ cond p 1 0 ∷ [])
unfolding row_words
row_words_mark offset consumed id source confidence mode table p q = (refl, refl)

pub column_words-length : (c : Column) → length (column_words c) ≡ words_per_entry
unfolding column_words
column_words-length (Body kind start len) = refl
column_words-length (Unfit kind) = refl
column_words-length Lost = refl
column_words-length Unused = refl

pub columns_words-length : (cs : List Column) → length (columns_words cs) ≡ words_per_entry * length cs
columns_words-length [] = refl
columns_words-length (c ∷ cs) = simp (length-append, column_words-length, columns_words-length cs) (omega arith)

pub columns_append : (a b : List Column) → columns_words (a ++ b) ≡ columns_words a ++ columns_words b
columns_append [] b = refl
columns_append (c ∷ a) b = rw (columns_append a b) (sym (append_assoc (column_words c) (columns_words a) (columns_words b)))

pub unused_words-length : (n : ℕ) → length (unused_words n) ≡ words_per_entry * n
unfolding unused_words
unused_words-length zero = refl
unused_words-length (suc n) = simp (length-append, column_words-length, unused_words-length n) (omega arith)

pub rows_words-length : (rs : List Row) → length (rows_words rs) ≡ length rs * words_per_row
rows_words-length [] = refl
rows_words-length (r ∷ rs) = simp (length-append, row_words-length, rows_words-length rs) (omega arith)

-- ---- writing
module _ {A : Type 0} where
  -- THE LAW: words written behind others are written with them
  pub sets_append : (l : List A) (at : ℕ) (vs us : List A) → sets (sets l at vs) (at + length vs) us ≡ sets l at (vs ++ us)
  sets_append l at [] us = rw add-zero
  sets_append l at (v ∷ vs) us = rw (add-suc, ← suc-add) (sets_append (set l at v) (suc at) vs us)

  pub overlay_length : (ws old : List A) → length ws ≤ length old → length (overlay ws old) ≡ length old
  overlay_length ws old h = simp (length-append, length-drop) (omega arith)

  -- THE LAW: what is written behind the first words comes to be one of them
  pub overlay_more : (ws vs old : List A) → length ws + length vs ≤ length old → sets (overlay ws old) (length ws) vs ≡ overlay (ws ++ vs) old
  overlay_more ws vs old h =
      let l = overlay_length ws old (omega arith) in
      sets-eq vs (overlay ws old) (length ws) (omega arith) ∙ simp (take-append_seam, drop-append-add, drop-drop, length-append)

-- THE LAW: a value is written, and then those behind it: that is to write all from there on
pub sets_next : (l : List ℕ) (at : ℕ) (vs : List ℕ) (i : ℕ) → i < length vs →
    sets (set l (at + i) (get_or vs i 0)) (at + (i + 1)) (drop (i + 1) vs) ≡ sets l (at + i) (drop i vs)
sets_next l at vs i h = rw (add-one, add-suc, drop-cons vs i 0)

-- ---- what fills one list
-- an answer's number, and how many things it says are written
abbrev pub Numbers : Result Filled Refusal → ℕ → ℕ → Type 0
Numbers answer number written = (filled_number answer ≡ number) × (filled_written answer ≡ written)

-- THE LAW: they are those of the first check that holds; behind the checks it is 9 where there are more things than cells, and as many are written as fit
pub filled_numbers : (c : Checked) (n room : ℕ) → Numbers (after Err c (Ok (filled_by n room))) (number_after c n room) (written_after c n room)
filled_numbers (Err r) n room = (refl, refl)
filled_numbers (Ok tt) n room =
    by_order room n
    (λ more. simp (lt-leb n room more, lt-ltb room n more, min-eq_left (le_of_lt more)) (refl, refl))
    (λ fit. simp (le-leb n room fit, le-ltb room n fit, min-eq_right fit) (refl, refl))

-- ---- room
-- dividing by 4 and then by the width is dividing by their product
pub room_least : (rows cols width : ℕ) → (width ≡ 0 → ⊥) → min (rows / words_per_row) (cols / words_per_entry / width) ≡ room_of rows cols width
unfolding room_of
room_least rows cols width h = simp (ne_eqb width 0 h, ← div-div-eq-div-mul)

least : (b : Bool) (x y : ℕ) → cond b x (min x y) ≤ x
least true x y = omega arith
least false x y = min-le_left x y

-- THE LAW: a row below the room has its words,
pub room_rows : (rows cols width n : ℕ) → n < room_of rows cols width → n * words_per_row + words_per_row ≤ rows
unfolding room_of
room_rows rows cols width n h = omega (arith, least (eqb width 0) (rows / words_per_row) (cols / (words_per_entry * width)))

-- and its group of columns
pub room_cols : (rows cols width n : ℕ) → n < room_of rows cols width → n * (words_per_entry * width) + words_per_entry * width ≤ cols
unfolding room_of
room_cols rows cols zero n h = omega arith
room_cols rows cols (suc w) n h =
    let k = words_per_entry * suc w in
    let some = simp (ne_eqb (suc w) 0 (λ z. omega arith)) at h in
    rw (← suc-mul) ((le-div_iff_mul-le {k = k} (omega arith)).0 (le_trans some (min-le_right (rows / words_per_row) (cols / k))))

-- THE LAW: lists that hold one row have room
pub room_some : (rows cols width : ℕ) → words_per_row ≤ rows → words_per_entry * width ≤ cols → 0 < room_of rows cols width
unfolding room_of
room_some rows cols zero h g = omega arith
room_some rows cols (suc w) h g =
    let k = words_per_entry * suc w in
    let one : 1 * k ≤ cols = omega arith in
    let some : 1 ≤ cols / k = (le-div_iff_mul-le {k = k} (omega arith)).1 one in
    simp (ne_eqb (suc w) 0 (λ z. omega arith)) (omega arith)
