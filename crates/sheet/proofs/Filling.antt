-- Calls that fill lists: what they promise follows from what their work came to, and fixes what they leave.
-- Assumes nothing.
use Rattle.std.specs.Prelude.{Option, Some, None, Err, Ok}
use Prim.Native.Nat.{ℕ}
use mathlib.Core.Path.{◌≡◌, sym, ap, ◌∙◌}
use mathlib.Core.Bool.{false}
use mathlib.Core.List.{List}
use native.Mathlib.Omega.{arith}
use borrow.Author.Tests.{le-leb, lt-leb}
use lib.ListN.{length}
use Rattle.sheet.specs.Columns.{room_of}
use Rattle.sheet.specs.Filled.{filled_number, filled_written, filled_by, laid, ListFilling, ListOutcome, list_outcome, FillsList, list_answer, list_number, list_written, list_left}
use Rattle.sheet.specs.Hits.{Hit, RowFilling, RowOutcome, row_outcome, FillsRows, row_room, rows_answer, rows_number, rows_written, rows_left, entries_left}
use Rattle.sheet.specs.Inner.{on, over, Carves, Empty, told_by, Adds, filled_to, FilledIs}
use Rattle.sheet.specs.declared.filled.Filled.TheVariants.{Done, Full}
use Rattle.sheet.specs.declared.inner.Sheet.{Sheet}
use Rattle.sheet.specs.declared.refusal.Refusal.{Refusal}
use Rattle.sheet.proofs.Carving.{told_on, told_over, puts_all}
use Rattle.sheet.proofs.Laws.{filled_numbers}

-- ---- rows: what carving came to
module _ (width room : ℕ) (hits : List Hit) (rows cols rows' cols' : List ℕ) (is : room ≡ room_of (length rows) (length cols) width) where
  pub all_written : (n : ℕ) → Carves width room 0 hits false rows cols (on n) rows' cols' → FilledIs hits width rows cols (row_outcome (Ok (Done n)) rows' cols')
  all_written n x =
      let t = told_on room 0 (length hits) n false x.answer in
      let p = puts_all width room hits rows cols rows' cols' is x.puts in
      let k : n ≡ length hits = omega arith in
      record {
        answer = rw (← is, k) (simp (le-leb (length hits) room (omega (arith, t.0))));
        rows_are = rw (← is) p.0;
        cols_are = rw (← is) p.1;
      }

  pub some_left : Carves width room 0 hits false rows cols over rows' cols' → FilledIs hits width rows cols (row_outcome (Ok (Full room)) rows' cols')
  some_left x =
      let lt = told_over room 0 (length hits) false x.answer in
      let p = puts_all width room hits rows cols rows' cols' is x.puts in
      record {
        answer = rw (← is) (simp (lt-leb (length hits) room (omega arith)));
        rows_are = rw (← is) p.0;
        cols_are = rw (← is) p.1;
      }

  filled : (r : Option Unit) (s : Sheet) → s.room ≡ room → Carves width room 0 hits false rows cols (told_by r s) rows' cols'
      → FilledIs hits width rows cols (row_outcome (Ok (filled_to s r)) rows' cols')
  filled (Some u) s e x = all_written s.n x
  filled None s e x = rw e (some_left x)

-- and of a sheet that was empty before
pub adds_filled : (rows cols : List ℕ) (width : ℕ) (hits : List Hit) (s s' : Sheet) (r : Option Unit) → Empty rows cols width s → Adds hits false s (told_by r s') s'
    → FilledIs hits width rows cols (row_outcome (Ok (filled_to s' r)) s'.rows.now s'.cols.now)
adds_filled rows cols width hits s s' r e x =
    let c = rw (e.rows_are, e.cols_are, e.width_is, e.n_is) at x.carves in
    filled width s.room hits rows cols s'.rows.now s'.cols.now e.room_is r s' x.room c

-- ---- rows: the two ways out, a check that refuses and the work that is done
module _ (a : RowFilling) where
  rows_promised : (x : RowOutcome) → x.answer ≡ rows_answer a → x.rows ≡ rows_left a → x.cols ≡ entries_left a → FillsRows a x
  unfolding rows_answer rows_number rows_written
  rows_promised x e f g =
      let n = filled_numbers a.checked (length a.hits) (row_room a) in
      record { answer = e; number = ap filled_number e ∙ n.0; written = ap filled_written e ∙ n.1; rows = f; entries = g }

  pub rows_refused : (r : Refusal) → a.checked ≡ Err r → FillsRows a (row_outcome (Err r) a.rows a.cols)
  unfolding rows_answer rows_left entries_left
  rows_refused r e = rows_promised (row_outcome (Err r) a.rows a.cols) (rw e) (rw e) (rw e)

  pub rows_filled : (x : RowOutcome) → a.checked ≡ (Ok tt) → FilledIs a.hits a.width a.rows a.cols x → FillsRows a x
  unfolding rows_answer rows_left entries_left
  rows_filled x e f = rows_promised x (rw e f.answer) (rw e f.rows_are) (rw e f.cols_are)

-- ---- one list
module _ (a : ListFilling) where
  list_promised : (x : ListOutcome) → x.answer ≡ list_answer a → x.list ≡ list_left a → FillsList a x
  unfolding list_answer list_number list_written
  list_promised x e f =
      let n = filled_numbers a.checked (length a.things) (length a.old) in
      record { answer = e; number = ap filled_number e ∙ n.0; written = ap filled_written e ∙ n.1; list = f }

  pub list_refused : (r : Refusal) → a.checked ≡ Err r → FillsList a (list_outcome (Err r) a.old)
  unfolding list_answer list_left
  list_refused r e = list_promised (list_outcome (Err r) a.old) (rw e) (rw e)

  pub list_filled : (x : ListOutcome) → a.checked ≡ (Ok tt) → x.answer ≡ Ok (filled_by (length a.things) (length a.old)) → x.list ≡ laid a.things a.old → FillsList a x
  unfolding list_answer list_left
  list_filled x e f g = list_promised x (rw e f) (rw e g)

-- ---- the promises fix all that is left
pub rows_fixed : (a : RowFilling) (x y : RowOutcome) → FillsRows a x → FillsRows a y → x ≡ y
rows_fixed a x y p q = same (p.answer ∙ sym q.answer) (p.rows ∙ sym q.rows) (p.entries ∙ sym q.entries)
  where
    same : x.answer ≡ y.answer → x.rows ≡ y.rows → x.cols ≡ y.cols → x ≡ y
    same e f g = rw (e, f, g)

pub list_fixed : (a : ListFilling) (x y : ListOutcome) → FillsList a x → FillsList a y → x ≡ y
list_fixed a x y p q = same (p.answer ∙ sym q.answer) (p.list ∙ sym q.list)
  where
    same : x.answer ≡ y.answer → x.list ≡ y.list → x ≡ y
    same e f = rw (e, f)
