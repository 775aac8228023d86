-- What the hints are: each is the commonest type of its column, and no value counts as type 5.
-- Assumes nothing.
use Rattle.std.specs.Prelude.{None, Some}
use Prim.Native.Nat.{ℕ, zero, suc, ◌<◌}
use mathlib.Core.Path.{◌≡◌, refl, ◌∙◌}
use mathlib.Core.Bool.{Bool, true, false, cond}
use mathlib.Core.List.{List, [], ◌∷◌}
use native.Mathlib.Omega.{arith}
use lib.ListN.{length, get_or, length-append, get_or-append}
use lib.Seq.{get_or_at}
use Rattle.groups.specs.Rows.{is_used, columns_of, longest, is_refused, bad_row, bad_rows}
use Rattle.groups.proofs.Laws.{columns_none, longest_none, longest_next, GoodEntry, good_entry, good_next}
use Rattle.record.proofs.Numbers.{by_order}
use Rattle.record.specs.Entry.{read_entry}
use Rattle.record.specs.declared.entry.Entry.{Entry}
use Rattle.record.specs.Entry.{EntryRead}
use Rattle.record.specs.declared.record.Value.{Value}
use Rattle.record.specs.declared.record.Value.TheVariants.{Null, Int, Real, Text, Blob}
use Rattle.learn.specs.Learn.{types_of, given, given_at, column_types, hint_of, hints_below, hints_of}
use Rattle.learn.specs.Types.{is_bit, within, width_type, integer_type, value_type, IsCommonest, commonest_of}
use Rattle.learn.proofs.Counting.{commonest_is}
use Rattle.learn.proofs.Learning.{hints_length}

-- ---- type 5
-- THE LAW: no value counts as it
pub never_five : (v : Value) → value_type v ≡ 5 → ⊥
unfolding value_type integer_type width_type
never_five Null e = omega arith
never_five (Int z) e = one (is_bit z) (within 7 z) (within 15 z) (within 23 z) (within 31 z) e
  where
    one : (a b c d f : Bool) → ◌≡◌ {A = ℕ} (cond a 8 (cond b 1 (cond c 2 (cond d 3 (cond f 4 6))))) 5 → ⊥
    one true b c d f e = omega arith
    one false true c d f e = omega arith
    one false false true d f e = omega arith
    one false false false true f e = omega arith
    one false false false false true e = omega arith
    one false false false false false e = omega arith
never_five (Real x) e = omega arith
never_five (Text at n) e = omega arith
never_five (Blob at n) e = omega arith

-- ---- a column that some row has
module _ (s : List ℕ) where
  one_type : (e : Entry) → is_used e ≡ true → is_refused (read_entry e s) ≡ false → length (given s e) ≡ 1
  unfolding given
  one_type e used good = rw used (of (read_entry e s) good)
    where
      of : (r : EntryRead) → is_refused r ≡ false → length (types_of r) ≡ 1
      of (Some v) g = refl
      of None g = let z : ◌≡◌ {A = ℕ} 0 1 = cc in absurd (omega arith)

  -- a good row gives one type to each of its columns
  pub gives_one : (es : List Entry) (c : ℕ) → bad_row s es ≡ false → c < columns_of es → length (given_at s c es) ≡ 1
  unfolding given_at
  gives_one [] c good h = absurd (omega (arith, columns_none))
  gives_one (e ∷ es) c good h = let g = good_entry s e es c good h in at c g (λ d lt. gives_one es d g.rest lt)
    where
      at : (c : ℕ) → GoodEntry s e es c → ((d : ℕ) → d < columns_of es → length (given_at s d es) ≡ 1) → length (given_at s c (e ∷ es)) ≡ 1
      at zero g rest = one_type e g.used g.reads
      at (suc c) g rest = rest c (omega (arith, g.behind))

  -- so a column of the longest row has a type
  some_types : (rows : List (List Entry)) (c : ℕ) → bad_rows s rows ≡ false → c < longest rows → 0 < length (column_types s c rows)
  unfolding column_types
  some_types [] c good h = absurd (omega (arith, longest_none))
  some_types (r ∷ rs) c good h =
      let (here, rest) = good_next s r rs good in
      let size = length-append (given_at s c r) (column_types s c rs) in
      by_order c (columns_of r)
      (λ has. omega (arith, gives_one r c here has))
      (λ short. omega (arith, some_types rs c rest (omega (arith, longest_next r rs))))

  -- THE LAW: in good rows the hint of a column is the commonest of its types
  pub hint_is : (rows : List (List Entry)) (c : ℕ) → bad_rows s rows ≡ false → c < longest rows → IsCommonest (hint_of s c rows) (column_types s c rows)
  unfolding hint_of
  hint_is rows c good h = any (column_types s c rows) (some_types rows c good h)
    where
      any : (ts : List ℕ) → 0 < length ts → IsCommonest (commonest_of ts) ts
      any [] some = absurd (omega arith)
      any (t ∷ ts) some = commonest_is t ts

  -- and stands at the column's index
  hints_at : (rows : List (List Entry)) (n c : ℕ) → c < n → get_or (hints_below s n rows) c 0 ≡ hint_of s c rows
  unfolding hints_below
  hints_at rows zero c h = absurd (omega arith)
  hints_at rows (suc n) c h =
      let size = hints_length s rows n in
      by_order c n
      (λ lt. get_or-append (hints_below s n rows) _ 0 c (omega arith) ∙ hints_at rows n c lt)
      (λ ge. let e : c ≡ n = omega arith in rw e (get_or_at (hints_below s n rows) (hint_of s n rows) [] 0 n size))

  -- THE LAW: there are as many hints as the longest row has columns, and each is the commonest type of its column
  pub learned_are : (rows : List (List Entry)) → bad_rows s rows ≡ false →
      (length (hints_of s rows) ≡ longest rows) × ((c : ℕ) → c < longest rows → IsCommonest (get_or (hints_of s rows) c 0) (column_types s c rows))
  unfolding hints_of
  learned_are rows good = (hints_length s rows (longest rows), λ c h. rw (hints_at rows (longest rows) c h) (hint_is rows c good h))
