-- The order of the rows does not matter: where two blocks of whole rows change places among the entries, the call answers and writes the same.
-- Assumes nothing.
use Prim.Native.Nat.{ℕ, zero, suc, ◌+◌, ◌<◌, max}
use mathlib.Core.Path.{◌≡◌, refl, sym, ap, ◌∙◌}
use mathlib.Core.Bool.{true, ◌||◌, or_assoc, or_comm}
use mathlib.Core.List.{List, [], ◌∷◌, ◌++◌, append_assoc}
use native.Mathlib.Omega.{arith}
use lib.ListN.{length, length-append}
use Rattle.groups.specs.Rows.{row_count, rows_in, rows_of, longest, bad_rows}
use Rattle.groups.proofs.Joining.{Rows, bad_append, longest_append, rows_of-append}
use Rattle.record.proofs.Numbers.{by_test}
use Rattle.record.specs.declared.entry.Entry.{Entry}
use Rattle.sheet.specs.Limits.{count_fits}
use Rattle.sheet.proofs.Laws.{count_fits_lem}
use Rattle.sheet.specs.Filled.{list_answer, list_left}
use Rattle.learn.specs.Learn.{given_at, column_types, hint_of, hints_below, hints_of, learn_checks, learn_filling}
use Rattle.learn.specs.Types.{count_in}
use Rattle.learn.proofs.Counting.{count_append, commonest_same}

-- ---- what is the same in whatever order things come
module _ {A M : Type 0} (op : M → M → M) (assoc : (x y z : M) → op (op x y) z ≡ op x (op y z)) (comm : (x y : M) → op x y ≡ op y x)
    (f : List A → M) (join : (x y : List A) → f (x ++ y) ≡ op (f x) (f y)) where
  around : (p y q : M) → op p (op y q) ≡ op q (op y p)
  around p y q = comm p (op y q) ∙ rw (comm y q) (assoc q y p)

  apart : (p y q z : M) → op p (op y (op q z)) ≡ op (op p (op y q)) z
  apart p y q z = rw (← assoc y q z) (sym (assoc p (op y q) z))

  exchange : (a p b q c : List A) → f (a ++ (p ++ (b ++ (q ++ c)))) ≡ f (a ++ (q ++ (b ++ (p ++ c))))
  exchange a p b q c =
      let swap : op (f p) (op (f b) (op (f q) (f c))) ≡ op (f q) (op (f b) (op (f p) (f c))) =
      rw (apart (f p) (f b) (f q) (f c), apart (f q) (f b) (f p) (f c), around (f p) (f b) (f q)) in
      simp join (ap (λ m. op (f a) m) swap)

-- ---- rows
types_append : (s : List ℕ) (c : ℕ) (x y : List (List Entry)) → column_types s c (x ++ y) ≡ column_types s c x ++ column_types s c y
unfolding column_types
types_append s c [] y = refl
types_append s c (r ∷ x) y = rw (types_append s c x y) (sym (append_assoc (given_at s c r) (column_types s c x) (column_types s c y)))

hints_same : (s : List ℕ) (x y : List (List Entry)) → ((c : ℕ) → hint_of s c x ≡ hint_of s c y) → (n : ℕ) → hints_below s n x ≡ hints_below s n y
unfolding hints_below
hints_same s x y same zero = refl
hints_same s x y same (suc n) = rw (hints_same s x y same n, same n)

module _ (s : List ℕ) (a p b q c : List (List Entry)) where
  abbrev before : List (List Entry)
  before = a ++ (p ++ (b ++ (q ++ c)))

  abbrev behind : List (List Entry)
  behind = a ++ (q ++ (b ++ (p ++ c)))

  bad_exchanged : bad_rows s before ≡ bad_rows s behind
  bad_exchanged = exchange ◌||◌ or_assoc or_comm (bad_rows s) (bad_append s) a p b q c

  longest_exchanged : longest before ≡ longest behind
  longest_exchanged = exchange max (λ x y z. omega arith) (λ x y. omega arith) longest longest_append a p b q c

  -- THE LAW: a column has the same hint
  pub hint_exchanged : (k : ℕ) → hint_of s k before ≡ hint_of s k behind
  unfolding hint_of
  hint_exchanged k =
      commonest_same (column_types s k before) (column_types s k behind)
      (λ t.
      exchange ◌+◌ (λ x y z. omega arith) (λ x y. omega arith) (λ rows. count_in t (column_types s k rows))
      (λ x y. rw (types_append s k x y) (count_append t (column_types s k x) (column_types s k y)))
      a p b q c)

  pub hints_exchanged : hints_of s before ≡ hints_of s behind
  unfolding hints_of
  hints_exchanged = rw longest_exchanged (hints_same s before behind hint_exchanged (longest behind))

-- ---- words
module _ (s : List ℕ) (width i k j l : ℕ) (a p b q c : List ℕ) (ra : Rows width a i) (rp : Rows width p k) (rb : Rows width b j) (rq : Rows width q l) where
  abbrev first : List ℕ
  first = a ++ (p ++ (b ++ (q ++ c)))

  abbrev second : List ℕ
  second = a ++ (q ++ (b ++ (p ++ c)))

  count_exchanged : row_count width first ≡ row_count width second
  count_exchanged =
      let e : length first ≡ length second = exchange ◌+◌ (λ x y z. omega arith) (λ x y. omega arith) length length-append a p b q c in
      rw e

  module _ (some : 0 < width) where
    first_rows : rows_of width first ≡ rows_in i width a ++ (rows_in k width p ++ (rows_in j width b ++ (rows_in l width q ++ rows_of width c)))
    first_rows = rw (rows_of-append width some i a _ ra, rows_of-append width some k p _ rp, rows_of-append width some j b _ rb, rows_of-append width some l q c rq)

    second_rows : rows_of width second ≡ rows_in i width a ++ (rows_in l width q ++ (rows_in j width b ++ (rows_in k width p ++ rows_of width c)))
    second_rows = rw (rows_of-append width some i a _ ra, rows_of-append width some l q _ rq, rows_of-append width some j b _ rb, rows_of-append width some k p c rp)

    malformed_exchanged : bad_rows s (rows_of width first) ≡ bad_rows s (rows_of width second)
    malformed_exchanged = rw (first_rows, second_rows) (bad_exchanged s (rows_in i width a) (rows_in k width p) (rows_in j width b) (rows_in l width q) (rows_of width c))

    learned_exchanged : hints_of s (rows_of width first) ≡ hints_of s (rows_of width second)
    learned_exchanged = rw (first_rows, second_rows) (hints_exchanged s (rows_in i width a) (rows_in k width p) (rows_in j width b) (rows_in l width q) (rows_of width c))

  wide : count_fits width ≡ true → 0 < width
  wide fits = omega (arith, (count_fits_lem width fits).0)

  module _ (old : List ℕ) where
    -- THE LAW: the call answers the same,
    pub answer_exchanged : list_answer (learn_filling s width first old) ≡ list_answer (learn_filling s width second old)
    unfolding list_answer learn_checks
    answer_exchanged =
        by_test (count_fits width)
        (λ fits. rw (malformed_exchanged (wide fits), count_exchanged, learned_exchanged (wide fits)))
        (λ bad. simp bad)

    -- and leaves the same in the list
    pub types_exchanged : list_left (learn_filling s width first old) ≡ list_left (learn_filling s width second old)
    unfolding list_left learn_checks
    types_exchanged =
        by_test (count_fits width)
        (λ fits. rw (malformed_exchanged (wide fits), count_exchanged, learned_exchanged (wide fits)))
        (λ bad. simp bad)
