-- A scan, attempt by attempt: what has been found so far, with what is still to come, comes to the whole.
-- Assumes nothing.
use Rattle.std.specs.Prelude.{Ok}
use Prim.Native.Nat.{ℕ, zero, suc, zero-le, ◌+◌, ◌-◌, ◌*◌, ◌≤◌, ◌<◌}
use mathlib.Core.Path.{◌≡◌, refl, sym, ap, ◌∙◌}
use mathlib.Core.List.{List, []}
use native.Mathlib.Nat.{add-mul, one-mul, suc-mul, zero-mul}
use native.Mathlib.Omega.{arith}
use lib.ListN.{length, length-append}
use lib.Seq.{sets, length-sets}
use borrow.Author.Tests.{lt-ltb, le-ltb}
use Rattle.attempt.specs.Attempt.{Found, miss, hit, attempt_at}
use Rattle.filter.proofs.Laws.{misses_keep}
use Rattle.filter.specs.Inner.{MissBetween, ThroughIs}
use Rattle.record.proofs.Numbers.{by_order}
use Rattle.scan.specs.Inner.{Written, Ran}
use Rattle.attempt.specs.Places.{attempt_places}
use Rattle.scan.specs.Scan.{Run, through, no_room, missed, found, scan_from, row_of, rows_of, row_count, entries_of, finished_places, end_of, done, full, scan_outcome}
use Rattle.sheet.specs.Sheet.{columns_words}
use Rattle.scan.specs.declared.schema_sig.Scanned.{Scanned}
use Rattle.sheet.proofs.Laws.{columns_words-length, row_words-length, rows_words-length, sets_append, room_rows, room_cols, laid_over}
use Rattle.sheet.specs.Columns.{room_of}
use Rattle.sheet.specs.Limits.{words_per_row, words_per_entry}
use Rattle.sheet.specs.declared.inner.Sheet.{Sheet}
use Rattle.sheet.specs.Row.{row_words}
use Rattle.sheet.specs.Sheet.{rows_words}

-- ---- one attempt further
module _ (f : ℕ) (s hints : List ℕ) (room o n : ℕ) (h : o < length s - 2) where
  pub scan_missed : attempt_at s hints o ≡ miss → scan_from (suc f) s hints room o n ≡ missed o (scan_from f s hints room (o + 1) n)
  unfolding scan_from
  scan_missed e = simp (lt-ltb o (length s - 2) h, e)

  pub scan_found : (x : Found) → attempt_at s hints o ≡ hit x → n < room → scan_from (suc f) s hints room o n ≡ found o x (scan_from f s hints room (o + x.consumed) (n + 1))
  unfolding scan_from
  scan_found x e m = simp (lt-ltb o (length s - 2) h, e, lt-ltb n room m)

  pub scan_full : (x : Found) → attempt_at s hints o ≡ hit x → room ≤ n → scan_from (suc f) s hints room o n ≡ no_room o
  unfolding scan_from
  scan_full x e m = simp (lt-ltb o (length s - 2) h, e, le-ltb n room m)

pub scan_none : (s hints : List ℕ) (room o n : ℕ) → scan_from 0 s hints room o n ≡ through
unfolding scan_from
scan_none s hints room o n = refl

pub scan_end : (f : ℕ) (s hints : List ℕ) (room o n : ℕ) → length s - 2 ≤ o → scan_from f s hints room o n ≡ through
unfolding scan_from
scan_end zero s hints room o n h = refl
scan_end (suc f) s hints room o n h = simp (le-ltb o (length s - 2) h)

-- ---- how long the lists are

pub rows_count : (base columns : ℕ) (t : Run) → length (rows_of base columns t) ≡ row_count t
rows_count base columns through = refl
rows_count base columns (no_room o) = refl
rows_count base columns (missed o t) = rows_count base columns t
rows_count base columns (found o x t) = ap suc (rows_count base columns t)

-- ---- what is still to come

-- t₀ is the whole run and t what is left of it; a group has `wide` words
pub record Going (s : List ℕ) (base columns wide : ℕ) (t₀ : Run) (rows₀ cols₀ : List ℕ) (t : Run) (rows cols : List ℕ) (n read : ℕ) : Type 0 where
  pub reads : length (finished_places s t₀) ≡ read + length (finished_places s t)
  pub counts : row_count t₀ ≡ n + row_count t
  pub ends : (m r : ℕ) → end_of (length s) m r t₀ ≡ end_of (length s) m r t
  pub words : length (entries_of t₀) ≡ n * wide + length (entries_of t)
  pub rows_are : sets rows (n * words_per_row) (rows_words (rows_of base columns t)) ≡ sets rows₀ 0 (rows_words (rows_of base columns t₀))
  pub cols_are : sets cols (n * wide) (entries_of t) ≡ sets cols₀ 0 (entries_of t₀)
  pub rows_long : length rows ≡ length rows₀
  pub cols_long : length cols ≡ length cols₀

module _ (s : List ℕ) (base columns wide : ℕ) where
  going_start : (t : Run) (rows cols : List ℕ) → Going s base columns wide t rows cols t rows cols 0 0
  going_start t rows cols =
      let z : 0 * wide ≡ 0 = omega arith in
      record {
        reads = omega arith;
        counts = omega arith;
        ends = λ m r. refl;
        words = omega arith;
        rows_are = refl;
        cols_are = rw z;
        rows_long = refl;
        cols_long = refl;
      }

  module _ (t₀ : Run) (rows₀ cols₀ : List ℕ) (t : Run) (rows cols : List ℕ) (n read : ℕ) where
    going_missed : (o r : ℕ) → length (attempt_places s o) ≡ r → Going s base columns wide t₀ rows₀ cols₀ (missed o t) rows cols n read
        → Going s base columns wide t₀ rows₀ cols₀ t rows cols n (read + r)
    going_missed o r e g =
        record {
          reads = omega (arith, g.reads, length-append (attempt_places s o) (finished_places s t));
          counts = g.counts;
          ends = g.ends;
          words = g.words;
          rows_are = g.rows_are;
          cols_are = g.cols_are;
          rows_long = g.rows_long;
          cols_long = g.cols_long;
        }

    going_found : (o : ℕ) (x : Found) (r : ℕ) (rows' cols' : List ℕ) → length (attempt_places s o) ≡ r → length (columns_words x.columns) ≡ wide
        → rows' ≡ sets rows (n * words_per_row) (row_words (row_of base columns o x)) → cols' ≡ sets cols (n * wide) (columns_words x.columns)
        → length rows' ≡ length rows → length cols' ≡ length cols
        → Going s base columns wide t₀ rows₀ cols₀ (found o x t) rows cols n read → Going s base columns wide t₀ rows₀ cols₀ t rows' cols' (n + 1) (read + r)
    going_found o x r rows' cols' e w er ec lr lc g =
        let row = row_words (row_of base columns o x) in
        let k : (n + 1) * words_per_row ≡ n * words_per_row + length row = omega (arith, row_words-length (row_of base columns o x)) in
        let m : (n + 1) * wide ≡ n * wide + wide = rw (add-mul, one-mul) in
        let l : (n + 1) * wide ≡ n * wide + length (columns_words x.columns) = omega arith in
        record {
          reads = omega (arith, g.reads, length-append (attempt_places s o) (finished_places s t));
          counts = omega (arith, g.counts);
          ends = g.ends;
          words = omega (arith, g.words, length-append (columns_words x.columns) (entries_of t));
          rows_are = rw (er, k) (sets_append rows (n * words_per_row) row (rows_words (rows_of base columns t)) ∙ g.rows_are);
          cols_are = rw (ec, l) (sets_append cols (n * wide) (columns_words x.columns) (entries_of t) ∙ g.cols_are);
          rows_long = lr ∙ g.rows_long;
          cols_long = lc ∙ g.cols_long;
        }

-- n rows that find room have it
pub room_all : (rows cols width n : ℕ) → n ≤ room_of rows cols width → (n * words_per_row ≤ rows) × (n * (words_per_entry * width) ≤ cols)
room_all rows cols width zero h = (zero-le, let z : 0 * (words_per_entry * width) ≡ 0 = zero-mul (words_per_entry * width) in rw z zero-le)
room_all rows cols width (suc n) h =
    (rw suc-mul (room_rows rows cols width n h), rw (suc-mul n (words_per_entry * width)) (room_cols rows cols width n h))

-- a row that is written keeps both lists as long as they were
pub written_long : (base o : ℕ) (x : Found) (s s' : Sheet) → Written base o x s s' → (length s'.rows.now ≡ length s.rows.now) × (length s'.cols.now ≡ length s.cols.now)
written_long base o x s s' w = (
  rw w.rows_are (length-sets s.rows.now (s.n * words_per_row) (row_words (row_of base s.width o x))),
  rw w.cols_are (length-sets s.cols.now (s.n * (words_per_entry * s.width)) (columns_words x.columns)),
)

-- ---- with fuel for what is left

pub On : (s hints : List ℕ) (base start room : ℕ) (rows₀ cols₀ rows cols : List ℕ) (o n read : ℕ) → Type 0
On s hints base start room rows₀ cols₀ rows cols o n read =
    (f : ℕ) × (length s ≤ o + f)
    × Going s base (length hints) (words_per_entry * length hints) (scan_from (length s) s hints room start 0) rows₀ cols₀ (scan_from f s hints room o n) rows cols n read

pub on_start : (s hints : List ℕ) (base start room : ℕ) (rows cols : List ℕ) → On s hints base start room rows cols rows cols start 0 0
unfolding On
on_start s hints base start room rows cols = (length s, omega arith, going_start s base (length hints) (words_per_entry * length hints) _ rows cols)

module _ (s hints : List ℕ) (base start room : ℕ) (rows₀ cols₀ rows cols : List ℕ) (o n read : ℕ) where
  pub on_long : On s hints base start room rows₀ cols₀ rows cols o n read → (length rows ≡ length rows₀) × (length cols ≡ length cols₀)
  unfolding On
  on_long (f, q, g) = (g.rows_long, g.cols_long)

  pub on_missed : (r : ℕ) → o < length s - 2 → attempt_at s hints o ≡ miss → length (attempt_places s o) ≡ r
      → On s hints base start room rows₀ cols₀ rows cols o n read → On s hints base start room rows₀ cols₀ rows cols (o + 1) n (read + r)
  unfolding On
  on_missed r h e c (zero, q, g) = absurd (omega arith)
  on_missed r h e c (suc f, q, g) = (f, omega arith, going_missed _ _ _ _ _ _ _ _ _ _ _ _ o r c (rw (scan_missed f s hints room o n h e) at g))

  pub on_found : (x : Found) (r : ℕ) (rows' cols' : List ℕ) → o < length s - 2 → attempt_at s hints o ≡ hit x → n < room → 0 < x.consumed
      → length (attempt_places s o) ≡ r → length x.columns ≡ length hints
      → rows' ≡ sets rows (n * words_per_row) (row_words (row_of base (length hints) o x)) → cols' ≡ sets cols (n * (words_per_entry * length hints)) (columns_words x.columns)
      → length rows' ≡ length rows → length cols' ≡ length cols
      → On s hints base start room rows₀ cols₀ rows cols o n read → On s hints base start room rows₀ cols₀ rows' cols' (o + x.consumed) (n + 1) (read + r)
  unfolding On
  on_found x r rows' cols' h e m z c w er ec lr lc (zero, q, g) = absurd (omega arith)
  on_found x r rows' cols' h e m z c w er ec lr lc (suc f, q, g) = (
    f,
    omega arith,
    going_found _ _ _ _ _ _ _ _ _ _ _ _ o x r rows' cols' c (columns_words-length x.columns ∙ ap (λ (k : ℕ). words_per_entry * k) w) er ec lr lc
        (rw (scan_found f s hints room o n h x e m) at g),
  )

  module _ (row_room : n * words_per_row ≤ length rows₀) (col-room : n * (words_per_entry * length hints) ≤ length cols₀) where
    -- nothing is left to come
    ran : (t : Run) (a : Scanned) → rows_of base (length hints) t ≡ [] → entries_of t ≡ [] → row_count t ≡ 0 → length (finished_places s t) ≡ 0 → end_of (length s) n read t ≡ a
        → Going s base (length hints) (words_per_entry * length hints) (scan_from (length s) s hints room start 0) rows₀ cols₀ t rows cols n read
        → Ran s hints base start room rows₀ cols₀ (scan_outcome (Ok a) rows cols)
    ran t a er ec z r d g =
        let t₀ = scan_from (length s) s hints room start 0 in
        let c : row_count t₀ ≡ n = omega (arith, g.counts) in
        let p : length (finished_places s t₀) ≡ read = omega (arith, g.reads) in
        let w = rows_words-length (rows_of base (length hints) t₀) in
        let v = rows_count base (length hints) t₀ in
        let e : length (entries_of t) ≡ 0 = ap length ec in
        let rr : rows ≡ sets rows₀ 0 (rows_words (rows_of base (length hints) t₀)) = rw er at g.rows_are in
        let rc : cols ≡ sets cols₀ 0 (entries_of t₀) = rw ec at g.cols_are in
        record {
          answer = ap Ok (rw (c, p) (sym d ∙ sym (g.ends n read)));
          rows_are = rr ∙ laid_over (rows_words (rows_of base (length hints) t₀)) rows₀ (omega arith);
          cols_are = rc ∙ laid_over (entries_of t₀) cols₀ (omega (arith, g.words));
        }

    pub on_end : length s - 2 ≤ o → On s hints base start room rows₀ cols₀ rows cols o n read → Ran s hints base start room rows₀ cols₀ (scan_outcome (Ok (done n (length s) read)) rows cols)
    unfolding On
    on_end h (f, q, g) = ran through (done n (length s) read) refl refl refl refl refl (rw (scan_end f s hints room o n h) at g)

    pub on_full : (x : Found) → o < length s - 2 → attempt_at s hints o ≡ hit x → room ≤ n → On s hints base start room rows₀ cols₀ rows cols o n read
        → Ran s hints base start room rows₀ cols₀ (scan_outcome (Ok (full n o read)) rows cols)
    unfolding On
    on_full x h e m (zero, q, g) = absurd (omega arith)
    on_full x h e m (suc f, q, g) = ran (no_room o) (full n o read) refl refl refl refl refl (rw (scan_full f s hints room o n h x e m) at g)

-- ---- offsets that are passed over are attempts that failed
module _ (s hints : List ℕ) (base start room : ℕ) (rows₀ cols₀ rows cols : List ℕ) (o n read last r : ℕ) (e : last ≡ length s - 2)
    (on : On s hints base start room rows₀ cols₀ rows cols o n read) where
  pub on_passed : (to : ℕ) → to ≤ last → MissBetween s hints o to r → On s hints base start room rows₀ cols₀ rows cols to n (read + r)
  on_passed to le p =
      misses_keep s hints o last (λ a k. On s hints base start room rows₀ cols₀ rows cols a n k)
      (λ a k m lt miss x. on_missed s hints base start room rows₀ cols₀ rows cols a n k m (omega arith) miss.misses miss.counts x) to read r le p on

  pub on_through : ThroughIs s hints o last r → (to : ℕ) × (length s - 2 ≤ to) × On s hints base start room rows₀ cols₀ rows cols to n (read + r)
  on_through t =
      by_order o last (λ lt. (t.to, omega (arith, t.there), on_passed t.to (t.passed.near lt) t.passed.misses))
      (λ ge. let z : read + r ≡ read = omega (arith, (t.passed.early ge).1) in (o, omega arith, rw z on))
