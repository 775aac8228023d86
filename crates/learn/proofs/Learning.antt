-- Laws of the call: the hints as they are written, and the answer from what the code found.
-- Assumes nothing.
use Rattle.std.specs.Prelude.{Err, Ok, Some, None, Option, Result, ok_or}
use Prim.Native.Nat.{ℕ, zero, suc, ◌+◌, ◌≤◌, ◌<◌, min}
use mathlib.Core.Path.{◌≡◌, refl, sym, ◌∙◌}
use mathlib.Core.Bool.{Bool, true, false, cond, or-true}
use mathlib.Core.List.{List, [], ◌∷◌, ◌++◌}
use native.Mathlib.Decide.{le_ind}
use native.Mathlib.Nat.{min-eq_left, min-eq_right, le_of_lt}
use native.Mathlib.Numerals.{add-one}
use native.Mathlib.Omega.{arith}
use borrow.Author.Tests.{lt-ltb, le-ltb}
use lib.ListN.{length, take, set, length-append}
use lib.Seq.{take_all, take-append-le}
use Rattle.groups.specs.Judging.{judged_rows}
use Rattle.groups.specs.Rows.{row_count, rows_in, rows_of, longest, bad_rows}
use Rattle.groups.proofs.Laws.{rows_of_lem, longest_most, rows_good, rows_bad}
use Rattle.record.proofs.Numbers.{by_order}
use Rattle.record.specs.declared.entry.Entry.{Entry}
use Rattle.sheet.specs.Filled.{filled_by, laid, list_outcome, FillsList}
use Rattle.sheet.specs.Limits.{largest_region, most_rows, count_fits}
use Rattle.sheet.specs.Refusal.{first_held}
use Rattle.sheet.specs.Sheet.{overlay}
use Rattle.sheet.specs.declared.filled.Filled.{Filled}
use Rattle.sheet.specs.declared.refusal.Refusal.{Refusal}
use Rattle.sheet.specs.declared.refusal.Refusal.TheVariants.{ColumnCount, Malformed, TooLarge}
use Rattle.sheet.proofs.Laws.{overlay_length, overlay_more}
use Rattle.sheet.proofs.Filling.{list_refused, list_filled}
use Rattle.learn.specs.Learn.{hint_of, hints_below, hints_of, too_large, learn_checks, learn_filling}

-- ---- hints, written one behind the other
put_next : (ws old : List ℕ) (c x : ℕ) → length ws ≡ c → c < length old → set (overlay ws old) c x ≡ overlay (ws ++ (x ∷ [])) old
put_next ws old c x e h = rw (← e) (overlay_more ws (x ∷ []) old (omega arith))

module _ (s : List ℕ) (rows : List (List Entry)) where
  pub hints_length : (n : ℕ) → length (hints_below s n rows) ≡ n
  unfolding hints_below
  hints_length zero = refl
  hints_length (suc n) = simp (length-append, hints_length n) (omega arith)

  -- THE LAW: one more hint behind the first c
  hints_put : (c : ℕ) (old : List ℕ) → c < length old → set (overlay (hints_below s c rows) old) c (hint_of s c rows) ≡ overlay (hints_below s (c + 1) rows) old
  unfolding hints_below
  hints_put c old h = rw add-one (put_next (hints_below s c rows) old c (hint_of s c rows) (hints_length c) h)

  hints_take : (m n : ℕ) → m ≤ n → take m (hints_below s n rows) ≡ hints_below s m rows
  unfolding hints_below
  hints_take m =
      le_ind (λ (n : ℕ). take m (hints_below s n rows) ≡ hints_below s m rows)
      (take_all m (hints_below s m rows) (omega (arith, hints_length m)))
      (λ n h e. take-append-le m (hints_below s n rows) (hint_of s n rows ∷ []) (omega (arith, hints_length n)) ∙ e)

  -- THE LAW: the hints of as many columns as fit are the first of all
  pub hints_laid : (n : ℕ) (old : List ℕ) {k : ℕ} {list : List ℕ} → k ≡ min n (length old) → list ≡ overlay (hints_below s k rows) old → list ≡ laid (hints_below s n rows) old
  hints_laid n old e l =
      l
      ∙ by_order (length old) n
      (λ more. rw (e, min-eq_right (le_of_lt more), hints_take (length old) n (le_of_lt more)))
      (λ fit. rw (e, min-eq_left fit, take_all (length old) (hints_below s n rows) (omega (arith, hints_length n))))

-- the hints of the first c columns lie over what the list held
pub record PutTo (s : List ℕ) (rows : List (List Entry)) (columns : ℕ) (old : List ℕ) (c : ℕ) (types : List ℕ) : Type 0 where
  pub inside : c ≤ columns
  pub list : types ≡ overlay (hints_below s c rows) old

pub put_start : (s : List ℕ) (rows : List (List Entry)) (columns : ℕ) (old : List ℕ) → PutTo s rows columns old 0 old
unfolding hints_below
put_start s rows columns old = record { inside = omega arith; list = refl }

module _ {s : List ℕ} {rows : List (List Entry)} {columns : ℕ} {old : List ℕ} {c : ℕ} {types : List ℕ} (p : PutTo s rows columns old c types) where
  pub put_kept : columns ≤ length old → length types ≡ length old
  put_kept room = rw p.list (overlay_length (hints_below s c rows) old (omega (arith, hints_length s rows c, p.inside)))

  pub put_more : {h : ℕ} → columns ≤ length old → c < columns → h ≡ hint_of s c rows → PutTo s rows columns old (c + 1) (set types c h)
  put_more room more e = record { inside = omega arith; list = rw (e, p.list) (hints_put s rows c old (omega arith)) }

  pub put_end : columns ≤ c → types ≡ overlay (hints_below s columns rows) old
  put_end h = let e : c ≡ columns = omega (arith, p.inside) in rw e at p.list

-- ---- what judging them came to, where a bad one is refused
pub was_good : (o : Option ℕ) (e : Refusal) (n : ℕ) → ok_or o e ≡ Ok n → o ≡ Some n
was_good (Some m) e n h = cc
was_good None e n h = cc

pub was_bad : (o : Option ℕ) (e r : Refusal) → ok_or o e ≡ Err r → (o ≡ None) × (r ≡ e)
was_bad (Some m) e r h = cc
was_bad None e r h = (refl, cc)

-- ---- rows that were judged to be good
module _ (s : List ℕ) (width : ℕ) (words : List ℕ) {columns : ℕ} (good : Some columns ≡ judged_rows s (rows_in (row_count width words) width words)) where
  judged : (bad_rows s (rows_of width words) ≡ false) × (columns ≡ longest (rows_of width words))
  judged = rw (rows_of_lem width words) (rows_good s (rows_in (row_count width words) width words) good)

  -- no row has more columns than the width
  pub columns_fit : columns ≤ width
  columns_fit = omega (arith, (rows_good s (rows_in (row_count width words) width words) good).1, longest_most (row_count width words) width words)

-- ---- the answer
module _ (s : List ℕ) (width : ℕ) (words old : List ℕ) where
  abbrev Answers : Result Filled Refusal → List ℕ → Type 0
  Answers r list = FillsList (learn_filling s width words old) (list_outcome r list)

  -- THE LAW: the first check that holds refuses, and leaves the list as it was
  pub bad_width : count_fits width ≡ false → Answers (Err ColumnCount) old
  unfolding learn_checks
  bad_width h = list_refused _ _ (simp h)

  -- what judging the rows of a good width came to
  module _ (fits : count_fits width ≡ true) where
    pub bad_rows_lem : None ≡ judged_rows s (rows_in (row_count width words) width words) → Answers (Err Malformed) old
    unfolding learn_checks
    bad_rows_lem h =
        let bad : bad_rows s (rows_of width words) ≡ true = rw (rows_of_lem width words) (rows_bad s (rows_in (row_count width words) width words) h) in
        list_refused _ _ (simp (fits, bad))

    module _ {columns : ℕ} (good : Some columns ≡ judged_rows s (rows_in (row_count width words) width words)) where
      last_check : (b : Bool) → too_large s width words ≡ b → first_held (learn_checks s width words) ≡ cond b (Err TooLarge) (Ok tt)
      unfolding learn_checks
      last_check b h = simp (fits, (judged s width words good).0, h)

      pub too_long_lem : largest_region < length s → Answers (Err TooLarge) old
      too_long_lem h = list_refused _ _ (last_check true (simp (lt-ltb largest_region (length s) h)))

      pub too_many_lem : most_rows < row_count width words → Answers (Err TooLarge) old
      too_many_lem h = list_refused _ _ (last_check true (simp (lt-ltb most_rows (row_count width words) h, or-true)))

      -- THE LAW: past the checks the first hints are written, and the room decides
      pub all_good : {r : Filled} {list : List ℕ} → length s ≤ largest_region → row_count width words ≤ most_rows →
          r ≡ filled_by columns (length old) →
          list ≡ laid (hints_below s columns (rows_in (row_count width words) width words)) old →
          Answers (Ok r) list
      unfolding hints_of
      all_good small few e l =
          let rows = rows_of width words in
          let passed = last_check false (simp (le-ltb largest_region (length s) small, le-ltb most_rows (row_count width words) few)) in
          let long : columns ≡ longest rows = (judged s width words good).1 in
          let size : length (hints_below s (longest rows) rows) ≡ columns = hints_length s rows (longest rows) ∙ sym long in
          list_filled _ _ passed (rw (size, e)) (rw (← long, rows_of_lem width words) l)
