-- The columns of a row, written one after the other: what is written, with what is left to write, comes to the whole.
-- Assumes nothing.
use Rattle.std.specs.Prelude.{false, Option, None, Ok, Some}
use Prim.Native.Nat.{ℕ, zero, suc, ◌+◌, ◌-◌, ◌*◌, ◌≤◌, ◌<◌}
use mathlib.Core.Path.{◌≡◌, refl, sym, ap, ◌∙◌}
use mathlib.Core.List.{List, [], ◌∷◌, ◌++◌}
use native.Mathlib.Omega.{arith}
use lib.ListN.{length, length-append}
use lib.Seq.{sets}
use Rattle.modes.specs.Found.{column_at, behind, columns_from, end_from, lost_columns, found_hit}
use Rattle.modes.specs.Inner.{kinds_at, found_in, FindFits, Ready}
use Rattle.modes.specs.declared.inner.Find.{Find}
use Rattle.modes.proofs.Bodies.{behind_inside, columns_nil, columns_cons, columns_count, end_nil, end_cons}
use Rattle.modes.proofs.Reading.{kinds_step, kinds_cut, kinds_none}
use Rattle.record.specs.Varint.{varint_at}
use Rattle.record.specs.declared.varint.Cursor.{Cursor}
use Rattle.sheet.proofs.Filling.{adds_filled, rows_filled}
use Rattle.sheet.proofs.Laws.{column_words-length, columns_words-length, columns_append, sets_append, room_rows, room_cols, counted_fits}
use Rattle.sheet.specs.Columns.{column_words, unused_words, room_of}
use Rattle.sheet.specs.Hits.{Hit, RowFilling, row_outcome, FillsRows}
use Rattle.sheet.specs.Inner.{Empty, told_by, Adds, filled_to}
use Rattle.sheet.specs.Limits.{words_per_row, words_per_entry}
use Rattle.sheet.specs.Refusal.{first_held}
use Rattle.sheet.specs.Sheet.{columns_words}
use Rattle.sheet.specs.Slice.{counted_checks}
use Rattle.sheet.specs.declared.columns.Column.{Column}
use Rattle.sheet.specs.declared.filled.Filled.{Filled}
use Rattle.sheet.specs.declared.inner.Sheet.{Sheet}

-- the columns of ts are written from the word `first` of cols₀ on: k of them are there, and those of the other types, which stand from `at`
-- on, are left
pub record Written (s ts : List ℕ) (start : ℕ) (cols₀ : List ℕ) (first at end : ℕ) (cols : List ℕ) (k count : ℕ) : Type 0 where
  pub lists : sets cols (first + words_per_entry * k) (columns_words (columns_from (length s) end (kinds_at (count - k) s at))) ≡ sets cols₀ first (columns_words (columns_from (length s) start ts))
  pub ends : end_from (length s) end (kinds_at (count - k) s at) ≡ end_from (length s) start ts
  pub long : length cols ≡ length cols₀
  pub inside : end ≤ length s

pub written_start : (s : List ℕ) (from count start : ℕ) (cols : List ℕ) (first : ℕ) → start ≤ length s
    → Written s (kinds_at count s from) start cols first from start cols 0 count
written_start s from count start cols first h =
    let to : first + words_per_entry * 0 ≡ first = omega arith in
    let left : count - 0 ≡ count = omega arith in
    record { lists = rw (to, left); ends = rw left; long = refl; inside = h }

module _ (s ts : List ℕ) (start : ℕ) (cols₀ : List ℕ) (first at end : ℕ) (cols : List ℕ) (k count : ℕ) (w : Written s ts start cols₀ first at end cols k count) where
  module _ (more : k < count) where
    left : count - k ≡ suc (count - (k + 1))
    left = omega arith

    pub written_step : (t : ℕ) (c : Cursor) (cols' : List ℕ) → varint_at s at ≡ Some (t, c)
        → cols' ≡ sets cols (first + words_per_entry * k) (column_words (column_at (length s) end t)) → length cols' ≡ length cols
        → Written s ts start cols₀ first c.at (behind end (column_at (length s) end t)) cols' (k + 1) count
    written_step t c cols' e is long =
        let x = column_at (length s) end t in
        let rest = kinds_at (count - (k + 1)) s c.at in
        let kinds : kinds_at (count - k) s at ≡ t ∷ rest = rw left (kinds_step (count - (k + 1)) s at t c e) in
        let lists = rw (kinds, columns_cons (length s) end t rest) at w.lists in
        let to : first + words_per_entry * (k + 1) ≡ (first + words_per_entry * k) + length (column_words x) = omega (arith, column_words-length x) in
        record {
          lists = rw (is, to) (sets_append cols (first + words_per_entry * k) (column_words x) (columns_words (columns_from (length s) (behind end x) rest)) ∙ lists);
          ends = sym (end_cons (length s) end t rest) ∙ rw kinds at w.ends;
          long = long ∙ w.long;
          inside = (behind_inside (length s) end t w.inside).1;
        }

  nothing_left : kinds_at (count - k) s at ≡ [] → (end ≡ end_from (length s) start ts) × (cols ≡ sets cols₀ first (columns_words (columns_from (length s) start ts)))
  nothing_left e = (sym (end_nil (length s) end) ∙ rw e at w.ends, rw (e, columns_nil (length s) end) at w.lists)

  pub written_cut : k < count → varint_at s at ≡ None
      → (end ≡ end_from (length s) start ts) × (cols ≡ sets cols₀ first (columns_words (columns_from (length s) start ts)))
  written_cut more e = nothing_left (rw (left more) (kinds_cut (count - (k + 1)) s at e))

  pub written_all : count ≤ k → (end ≡ end_from (length s) start ts) × (cols ≡ sets cols₀ first (columns_words (columns_from (length s) start ts)))
  written_all done = let z : count - k ≡ 0 = omega arith in nothing_left (rw z (kinds_none s at))

-- ---- the group of a row
pub lost_length : (n : ℕ) → length (lost_columns n) ≡ n
lost_length zero = refl
lost_length (suc n) = ap suc (lost_length n)

-- the columns that are lost, those that were read, and what pads the group
pub group_is : (cols : List ℕ) (group width lost count : ℕ) (cs : List Column) → length cs ≡ count
    → sets (sets (sets cols group (columns_words (lost_columns lost))) (group + words_per_entry * lost) (columns_words cs)) (group + words_per_entry * (lost + count)) (unused_words (width - (lost + count)))
    ≡ sets cols group (columns_words (lost_columns lost ++ cs) ++ unused_words (width - length (lost_columns lost ++ cs)))
group_is cols group width lost count cs e =
    let a = columns_words (lost_columns lost) in
    let b = columns_words cs in
    let la : length a ≡ words_per_entry * lost = columns_words-length (lost_columns lost) ∙ ap (λ (k : ℕ). words_per_entry * k) (lost_length lost) in
    let lb : length b ≡ words_per_entry * count = columns_words-length cs ∙ ap (λ (k : ℕ). words_per_entry * k) e in
    let lab : group + words_per_entry * (lost + count) ≡ group + length (a ++ b) = omega (arith, length-append a b) in
    let n : length (lost_columns lost ++ cs) ≡ lost + count = length-append (lost_columns lost) cs ∙ rw (lost_length lost, e) in
    rw (n, columns_append (lost_columns lost) cs, lab, ← la, sets_append cols group a b) (sets_append cols group (a ++ b) (unused_words (width - (lost + count))))

-- a row has no more columns than the group is wide
pub few_columns : (s : List ℕ) (base width : ℕ) (x : Find) → FindFits s width x → length (found_hit (length s) base (found_in s x)).columns ≤ width
few_columns s base width x f =
    let lost = lost_columns x.style.lost in
    let read = columns_from (length s) x.start (kinds_at x.count s x.from) in
    omega (arith, length-append lost read, lost_length x.style.lost, columns_count (length s) x.start (kinds_at x.count s x.from), f.counts, f.few)

-- ---- room for a row
-- behind the checks nothing is written yet
pub ready : (len base : ℕ) (rows cols : List ℕ) (columns : ℕ) (sheet : Sheet) → first_held (counted_checks len columns base) ≡ (Ok tt) → Empty rows cols columns sheet → Ready len base sheet
ready len base rows cols columns sheet e x =
    let f = counted_fits len columns base e in
    record {
      small = f.small;
      near = f.near;
      some = rw x.width_is f.some;
      few = rw x.width_is f.few;
      room_most = rw (x.width_is, x.rows_are, x.cols_are, x.room_is) (omega arith);
      fits = omega (arith, x.n_is);
    }

module _ (len base : ℕ) (sheet : Sheet) (r : Ready len base sheet) (h : sheet.n < sheet.room) where
  below : sheet.n < room_of (length sheet.rows.now) (length sheet.cols.now) sheet.width
  below = omega (arith, r.room_most)

  pub row_fits : sheet.n * words_per_row + words_per_row ≤ length sheet.rows.now
  row_fits = room_rows (length sheet.rows.now) (length sheet.cols.now) sheet.width sheet.n below

  pub group_fits : sheet.n * (words_per_entry * sheet.width) + words_per_entry * sheet.width ≤ length sheet.cols.now
  group_fits = room_cols (length sheet.rows.now) (length sheet.cols.now) sheet.width sheet.n below

-- ---- a call
-- THE LAW: what a call leaves whose checks have passed, by what was added to its sheet
pub carved : (a : RowFilling) (hits : List Hit) (s₀ s : Sheet) (added : Option Unit) (filled : Filled) (rows cols : List ℕ) → a.checked ≡ (Ok tt) → Empty a.rows a.cols a.width s₀ → hits ≡ a.hits
    → Adds hits false s₀ (told_by added s) s → filled ≡ filled_to s added → rows ≡ s.rows.now → cols ≡ s.cols.now → FillsRows a (row_outcome (Ok filled) rows cols)
carved a hits s₀ s added filled rows cols e x h y f r c = rw (f, r, c) (rows_filled a _ e (adds_filled a.rows a.cols a.width a.hits s₀ s added x (rw h at y)))
