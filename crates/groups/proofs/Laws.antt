-- Laws of rows: where their entries stand among the words, what good ones have, and what it says that judging came to bad or to so many columns.
-- Assumes nothing.
use Prim.Native.Nat.{ℕ, zero, suc, ◌+◌, ◌*◌, ◌≤◌, ◌<◌, max}
use mathlib.Core.Path.{◌≡◌, refl}
use mathlib.Core.Bool.{Bool, true, false, cond, not, ◌&&◌, ◌||◌}
use mathlib.Core.List.{List, [], ◌∷◌}
use native.Mathlib.Nat.{suc-mul}
use native.Mathlib.Omega.{arith}
use borrow.Author.Tests.{lt-ltb}
use lib.Dec.{ltb}
use lib.ListN.{drop}
use lib.Seq.{drop-drop}
use Rattle.record.proofs.Laws.{entry_refused, good_read}
use Rattle.record.proofs.Numbers.{by_test}
use Rattle.record.specs.Entry.{bad_entry, read_entry}
use Rattle.record.specs.declared.entry.Entry.{Entry}
use Rattle.sheet.specs.Limits.{words_per_entry}
use Rattle.sheet.specs.Sheet.{entry_in, entries_in}
use Rattle.groups.specs.Judging.{judged_row, judged_rows}
use Rattle.groups.specs.Rows.{rows_in, row_count, rows_of, is_used, columns_of, longest, is_refused, any_bad, gapped, bad_row, bad_rows}
use Rattle.std.specs.Prelude.{Some, None}
use Rattle.sheet.proofs.Laws.{neither}

-- ---- rows among the words
pub rows_none : (width : ℕ) (words : List ℕ) → rows_in 0 width words ≡ []
unfolding rows_in
rows_none width words = refl

pub rows_next : (words : List ℕ) (width at left next : ℕ) → left ≡ suc next →
    rows_in left width (drop at words) ≡ entries_in width (drop at words) ∷ rows_in next width (drop (at + words_per_entry * width) words)
unfolding rows_in
rows_next words width at left next e = rw (e, ← drop-drop (words_per_entry * width) at words)

-- so many groups of so many words, less one
pub groups_next : (group left next : ℕ) → left ≡ suc next → left * group ≡ next * group + group
groups_next group left next e = rw (e, suc-mul)

pub rows_of_lem : (width : ℕ) (words : List ℕ) → rows_of width words ≡ rows_in (row_count width words) width words
unfolding rows_of
rows_of_lem width words = refl

-- ---- columns
pub columns_none : columns_of [] ≡ 0
unfolding columns_of
columns_none = refl

used_most : (b : Bool) → cond b 1 0 ≤ 1
used_most true = omega arith
used_most false = omega arith

-- THE LAW: no row has more columns than the width,
pub columns_most : (width : ℕ) (words : List ℕ) → columns_of (entries_in width words) ≤ width
unfolding columns_of
columns_most zero words = omega arith
columns_most (suc w) words = omega (arith, used_most (is_used (entry_in words)), columns_most w (drop words_per_entry words))

-- nor has the longest
pub longest_most : (n width : ℕ) (words : List ℕ) → longest (rows_in n width words) ≤ width
unfolding longest rows_in
longest_most zero width words = omega arith
longest_most (suc n) width words = omega (arith, columns_most width words, longest_most n width (drop (words_per_entry * width) words))

pub longest_none : longest [] ≡ 0
unfolding longest
longest_none = refl

pub longest_next : (r : List Entry) (rs : List (List Entry)) → longest (r ∷ rs) ≡ max (columns_of r) (longest rs)
unfolding longest
longest_next r rs = refl

-- ---- what good rows have
module _ (s : List ℕ) where
  -- reading a bad entry is refused, and no other
  pub refused_bad : (e : Entry) → is_refused (read_entry e s) ≡ bad_entry e s
  refused_bad e =
      by_test (bad_entry e s)
      (λ bad. rw (bad, (entry_refused e s bad).0))
      (λ good. rw (good, (good_read e s good).1))

  -- an entry at whose index or behind it a good row has a column
  pub record GoodEntry (e : Entry) (es : List Entry) (c : ℕ) : Type 0 where
    pub used : is_used e ≡ true
    pub reads : is_refused (read_entry e s) ≡ false
    pub rest : bad_row s es ≡ false
    pub behind : c < 1 + columns_of es

  -- THE LAW: as far as a good row has columns, its entries are used, and reading them is not refused
  pub good_entry : (e : Entry) (es : List Entry) (c : ℕ) → bad_row s (e ∷ es) ≡ false → c < columns_of (e ∷ es) → GoodEntry e es c
  unfolding columns_of any_bad gapped
  good_entry e es c good h =
      let (bad, gap) = neither (is_refused (read_entry e s) || any_bad s es) _ good in
      let (here, more) = neither (is_refused (read_entry e s)) (any_bad s es) bad in
      let none = neither (not (is_used e) && ltb 0 (columns_of es)) (gapped es) gap in
      by_test (is_used e)
      (λ used. record { used = used; reads = here; rest = rw (more, none.1); behind = rw used at h })
      (λ unused.
      let some : ltb 0 (columns_of es) ≡ true = let left = rw unused at h in lt-ltb 0 (columns_of es) (omega arith) in
      let never : true ≡ false = rw (unused, some) at none.0 in
      let z : ◌≡◌ {A = ℕ} 0 1 = cc in
      absurd (omega arith))

  pub good_next : (r : List Entry) (rs : List (List Entry)) → bad_rows s (r ∷ rs) ≡ false → (bad_row s r ≡ false) × (bad_rows s rs ≡ false)
  unfolding bad_rows
  good_next r rs e = neither (bad_row s r) (bad_rows s rs) e

-- ---- what judging came to
came_good : (b : Bool) (n k : ℕ) → Some n ≡ cond b None (Some k) → (b ≡ false) × (n ≡ k)
came_good true n k e = let z : ◌≡◌ {A = ℕ} 0 1 = cc in absurd (omega arith)
came_good false n k e = (refl, cc)

came_bad : (b : Bool) (k : ℕ) → None ≡ cond b None (Some k) → b ≡ true
came_bad true k e = refl
came_bad false k e = let z : ◌≡◌ {A = ℕ} 0 1 = cc in absurd (omega arith)

module _ (s : List ℕ) where
  pub row_good : (es : List Entry) {n : ℕ} → Some n ≡ judged_row s es → (bad_row s es ≡ false) × (n ≡ columns_of es)
  row_good es e = came_good (bad_row s es) _ (columns_of es) e

  pub row_bad : (es : List Entry) → None ≡ judged_row s es → bad_row s es ≡ true
  row_bad es e = came_bad (bad_row s es) (columns_of es) e

  pub rows_good : (rows : List (List Entry)) {n : ℕ} → Some n ≡ judged_rows s rows → (bad_rows s rows ≡ false) × (n ≡ longest rows)
  rows_good rows e = came_good (bad_rows s rows) _ (longest rows) e

  pub rows_bad : (rows : List (List Entry)) → None ≡ judged_rows s rows → bad_rows s rows ≡ true
  rows_bad rows e = came_bad (bad_rows s rows) (longest rows) e
