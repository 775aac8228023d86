-- Laws of judging: entry by entry a row is judged as a whole, and row by row all are.
-- Assumes nothing.
use Prim.Native.Nat.{ℕ, suc, ◌+◌, ◌-◌, ◌*◌, ◌≤◌, ◌<◌, max}
use mathlib.Core.Path.{◌≡◌, refl, sym, ◌∙◌}
use mathlib.Core.Bool.{Bool, true, false, cond, ◌||◌}
use mathlib.Core.List.{List, [], ◌∷◌}
use native.Mathlib.Nat.{add-zero, sub-zero, mul-zero, mul-le-mul_left}
use native.Mathlib.Omega.{arith}
use borrow.Author.Tests.{lt-ltb, eq-eqb, ne_eqb, ltb-false}
use lib.Dec.{ltb}
use lib.ListN.{length, drop}
use lib.Seq.{drop-drop}
use Rattle.record.proofs.Numbers.{by_test}
use Rattle.record.specs.Entry.{read_entry}
use Rattle.record.specs.declared.entry.Entry.{Entry}
use Rattle.sheet.specs.Limits.{words_per_entry}
use Rattle.sheet.specs.Sheet.{entry_in, entries_in}
use Rattle.groups.specs.Judging.{judged_entry, judged_from, judged_row, judged_rows, judged_behind}
use Rattle.groups.specs.Rows.{rows_in, is_used, columns_of, longest, is_refused, any_bad, gapped, bad_row, bad_rows}
use Rattle.groups.specs.Judging.{Judged}
use Rattle.std.specs.Prelude.{Some, None}
use Rattle.groups.proofs.Laws.{rows_none, rows_next, row_good, row_bad}

-- ---- entries among the words
entries_next : (words : List ℕ) (at left next : ℕ) → left ≡ suc next →
    entries_in left (drop at words) ≡ entry_in (drop at words) ∷ entries_in next (drop (at + words_per_entry) words)
entries_next words at left next e = rw (e, ← drop-drop words_per_entry at words)

none_gapped : (es : List Entry) → columns_of es ≡ 0 → gapped es ≡ false
unfolding columns_of gapped
none_gapped [] e = refl
none_gapped (x ∷ es) e =
    by_test (is_used x)
    (λ u. let one = rw u at e in absurd (omega arith))
    (λ u.
    let rest : columns_of es ≡ 0 = let none = rw u at e in omega arith in
    simp (u, rest, none_gapped es rest))

module _ (s : List ℕ) where
  module _ (e : Entry) (es : List Entry) (i n : ℕ) where
    judged_on : (m : ℕ) → judged_entry s e i n ≡ Some m → judged_from s (e ∷ es) i n ≡ judged_from s es (i + 1) m
    unfolding judged_from
    judged_on m h = rw h

    judged_bad : judged_entry s e i n ≡ None → judged_from s (e ∷ es) i n ≡ None
    unfolding judged_from
    judged_bad h = rw h

  -- behind an unused entry no more may be used
  judged_unused : (es : List Entry) (i n : ℕ) → n < i → judged_from s es i n ≡ cond (any_bad s es || ltb 0 (columns_of es)) None (Some n)
  unfolding judged_from any_bad columns_of
  judged_unused [] i n h = refl
  judged_unused (e ∷ es) i n h =
      by_test (is_refused (read_entry e s)) (λ b. simp b)
      λ b.
      by_test (is_used e)
      (λ u. simp (b, u, ne_eqb n i (λ z. omega arith), lt-ltb 0 (1 + columns_of es) (omega arith)) (either (any_bad s es)))
      (λ u.
      let none : 0 + columns_of es ≡ columns_of es = omega arith in
      simp (b, u, none) (judged_unused es (i + 1) n (omega arith)))
    where
      either : (x : Bool) → None ≡ cond (x || true) None (Some n)
      either true = refl
      either false = refl

  judged_used : (es : List Entry) (i : ℕ) → judged_from s es i i ≡ cond (bad_row s es) None (Some (i + columns_of es))
  unfolding judged_from any_bad gapped columns_of
  judged_used [] i = let z : i + 0 ≡ i = omega arith in rw z
  judged_used (e ∷ es) i =
      by_test (is_refused (read_entry e s)) (λ b. simp b)
      λ b.
      by_test (is_used e)
      (λ u.
      let more : i + (1 + columns_of es) ≡ i + 1 + columns_of es = omega arith in
      simp (b, u, eq-eqb i i refl, more) (judged_used es (i + 1)))
      (λ u.
      let none : 0 + columns_of es ≡ columns_of es = omega arith in
      simp (b, u, none) (judged_unused es (i + 1) i (omega arith) ∙ rest))
    where
      again : (x y z : Bool) (k : ℕ) → (y ≡ false → (z ≡ false) × (k ≡ i)) → cond (x || y) None (Some i) ≡ cond (x || (y || z)) None (Some k)
      again true y z k h = refl
      again false true z k h = refl
      again false false z k h = let f = h refl in rw (f.0, f.1)

      rest : cond (any_bad s es || ltb 0 (columns_of es)) None (Some i) ≡ cond (any_bad s es || (ltb 0 (columns_of es) || gapped es)) None (Some (i + columns_of es))
      rest =
          again (any_bad s es) (ltb 0 (columns_of es)) (gapped es) (i + columns_of es)
          (λ f.
          let z : columns_of es ≡ 0 = omega (arith, ltb-false 0 (columns_of es) f) in
          (none_gapped es z, omega arith))

  -- THE LAW: entry by entry a row is judged as a whole,
  judged_row_lem : (es : List Entry) → judged_from s es 0 0 ≡ judged_row s es
  judged_row_lem es = let z : 0 + columns_of es ≡ columns_of es = omega arith in judged_used es 0 ∙ rw z

  -- and row by row all are
  module _ (r : List Entry) (rs : List (List Entry)) (most : ℕ) where
    rows_on : (n : ℕ) → judged_row s r ≡ Some n → judged_behind s (r ∷ rs) most ≡ judged_behind s rs (max most n)
    unfolding bad_rows longest
    rows_on n h =
        let (good, e) = row_good s r (sym h) in
        let m : max most (max (columns_of r) (longest rs)) ≡ max (max most (columns_of r)) (longest rs) = omega arith in
        rw (good, e, m)

    rows_off : judged_row s r ≡ None → judged_behind s (r ∷ rs) most ≡ None
    unfolding bad_rows
    rows_off h = rw (row_bad s r (sym h))

  rows_end : (most : ℕ) → judged_behind s [] most ≡ Some most
  unfolding bad_rows longest
  rows_end most = let z : max most 0 ≡ most = omega arith in rw z

-- ---- one row, entry by entry: those before index i are judged, and n of them are used
pub record RowTo (s words : List ℕ) (from width i n : ℕ) : Type 0 where
  pub judged : judged_from s (entries_in (width - i) (drop (from + words_per_entry * i) words)) i n ≡ judged_row s (entries_in width (drop from words))

module _ {s words : List ℕ} {from width : ℕ} where
  pub row_start : RowTo s words from width 0 0
  row_start = record { judged = simp (add-zero, sub-zero) (judged_row_lem s (entries_in width (drop from words))) }

  module _ {i n : ℕ} (t : RowTo s words from width i n) where
    module _ (e : Entry) (is : e ≡ entry_in (drop (from + words_per_entry * i) words)) (more : i < width) where
      row_next : entries_in (width - i) (drop (from + words_per_entry * i) words) ≡ e ∷ entries_in (width - (i + 1)) (drop (from + words_per_entry * (i + 1)) words)
      row_next =
          let z : from + words_per_entry * (i + 1) ≡ from + words_per_entry * i + words_per_entry = omega arith in
          rw (is, z) (entries_next words (from + words_per_entry * i) (width - i) (width - (i + 1)) (omega arith))

      pub row_step : {r : Judged} {m : ℕ} → r ≡ judged_entry s e i n → r ≡ Some m → RowTo s words from width (i + 1) m
      row_step got h = record { judged = sym (judged_on s e _ i n _ (sym got ∙ h)) ∙ rw row_next at t.judged }

      pub row_refused : {r : Judged} → r ≡ judged_entry s e i n → r ≡ None → None ≡ judged_row s (entries_in width (drop from words))
      row_refused got h = sym (judged_bad s e _ i n (sym got ∙ h)) ∙ rw row_next at t.judged

    pub row_end : width ≤ i → Some n ≡ judged_row s (entries_in width (drop from words))
    unfolding judged_from
    row_end h = let z : width - i ≡ 0 = omega arith in rw z at t.judged

-- ---- all rows, one by one: those before index i are judged, and the longest has so many columns
pub record RowsTo (s words : List ℕ) (width rows i most : ℕ) : Type 0 where
  pub judged : judged_behind s (rows_in (rows - i) width (drop (words_per_entry * width * i) words)) most ≡ judged_rows s (rows_in rows width words)

-- the row at an index stands among the words
pub row_place : (width rows i len : ℕ) → rows * (words_per_entry * width) ≤ len → i < rows → words_per_entry * width * i + words_per_entry * width ≤ len
row_place width rows i len h k =
    let z : i + 1 ≤ rows = omega arith in
    omega (arith, mul-le-mul_left (words_per_entry * width) z)

module _ {s words : List ℕ} {width rows : ℕ} where
  pub rows_start : RowsTo s words width rows 0 0
  rows_start =
      let z : max 0 (longest (rows_in rows width words)) ≡ longest (rows_in rows width words) = omega arith in
      record { judged = simp (mul-zero, sub-zero, z) }

  module _ {i most : ℕ} (t : RowsTo s words width rows i most) (more : i < rows) where
    row_behind : rows_in (rows - i) width (drop (words_per_entry * width * i) words)
        ≡ entries_in width (drop (words_per_entry * width * i) words) ∷ rows_in (rows - (i + 1)) width (drop (words_per_entry * width * (i + 1)) words)
    row_behind =
        let z : words_per_entry * width * (i + 1) ≡ words_per_entry * width * i + words_per_entry * width = omega arith in
        rw z (rows_next words width (words_per_entry * width * i) (rows - i) (rows - (i + 1)) (omega arith))

    pub rows_step : {r : Judged} {n k : ℕ} → r ≡ judged_row s (entries_in width (drop (words_per_entry * width * i) words)) → r ≡ Some n → k ≡ max most n →
        RowsTo s words width rows (i + 1) k
    rows_step got h e = record { judged = rw e (sym (rows_on s _ _ most _ (sym got ∙ h)) ∙ rw row_behind at t.judged) }

    pub rows_refused : {r : Judged} → r ≡ judged_row s (entries_in width (drop (words_per_entry * width * i) words)) → r ≡ None → None ≡ judged_rows s (rows_in rows width words)
    rows_refused got h = sym (rows_off s _ _ most (sym got ∙ h)) ∙ rw row_behind at t.judged

  module _ {i most : ℕ} (t : RowsTo s words width rows i most) where
    pub rows_ended : rows ≤ i → Some most ≡ judged_rows s (rows_in rows width words)
    rows_ended h =
        let z : rows - i ≡ 0 = omega arith in
        sym (rows_end s most) ∙ rw (z, rows_none width (drop (words_per_entry * width * i) words)) at t.judged
