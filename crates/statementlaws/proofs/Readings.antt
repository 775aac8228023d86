-- The two readings of a statement: where they give the same, and that the format's only adds hints.
-- Assumes nothing.
use Prim.Native.Nat.{ℕ}
use mathlib.Core.Path.{◌≡◌, refl, sym, ◌∙◌}
use mathlib.Core.Bool.{true, false, false≢true, not, and-eq-true_iff, and-false, or-true}
use mathlib.Core.List.{List, [], ◌∷◌, ◌++◌}
use borrow.Author.Tests.{not-true}
use Rattle.record.proofs.Numbers.{by_test}
use Rattle.words.specs.Words.{bytes, trim, pieces, holds}
use Rattle.words.proofs.Held.{holds_word_lem}
use Rattle.words.proofs.Laws.{second_behind}
use Rattle.column.specs.Column.{is_row_id, begins_as_constraint, is_dropped, is_keyed, is_key, column_hint, piece_hints}
use Rattle.column.specs.declared.piece.Reading.TheVariants.{AsRust, ByFormat}
use Rattle.column.proofs.Laws.{no_constraint}
use Rattle.readings.specs.Statement.{between, all_hints, hints_of, statement_checks, statement_filling}
use Rattle.statement.specs.Statement as statement
use Rattle.statement.proofs.AsRust.{rust_filling}
use Rattle.statementlaws.specs.Plain.{is_plain, are_plain, plain_statement, LeftOf, none, kept, out}

-- ---- pieces
-- THE LAW: a piece that the Rust's reading takes for a column is one by the format, with the same hint
module _ (p : List ℕ) (taken : is_dropped AsRust p ≡ false) where
  not_row_id : is_row_id p ≡ false
  unfolding is_dropped
  not_row_id = by_test (is_row_id p) (λ t. absurd (false≢true (sym taken ∙ rw t))) (λ f. f)

  not_dropped : is_dropped ByFormat p ≡ false
  unfolding is_dropped
  not_dropped = no_constraint p (rw not_row_id at taken)

  not_key : is_key p ≡ false
  unfolding is_keyed is_row_id
  not_key =
      by_test (is_key p)
      (λ t.
      let one = (and-eq-true_iff _ _).0 (rw (second_behind p) at t) in
      let two = (and-eq-true_iff _ _).0 one.1 in
      absurd (false≢true (sym not_row_id ∙ rw (holds_word_lem _ _ 1 one.0, holds_word_lem _ _ 2 two.0, holds_word_lem _ _ 3 two.1))))
      (λ f. f)

  pub same_piece : piece_hints AsRust p ≡ piece_hints ByFormat p
  unfolding piece_hints column_hint
  same_piece = rw (taken, not_dropped, not_key)

-- ---- statements
-- a plain piece is such a one
plain_taken : (p : List ℕ) → is_plain p ≡ true → is_dropped AsRust p ≡ false
unfolding is_dropped is_row_id
plain_taken p h =
    let both = (and-eq-true_iff (not (holds (bytes "KEY") p)) (not (begins_as_constraint p))).0 h in
    rw (not-true (holds (bytes "KEY") p) both.0, not-true (begins_as_constraint p) both.1) (rw and-false)

same_all : (ps : List (List ℕ)) → are_plain ps ≡ true → all_hints AsRust ps ≡ all_hints ByFormat ps
unfolding all_hints are_plain
same_all [] h = refl
same_all (p ∷ ps) h =
    let both = (and-eq-true_iff (is_plain (trim p)) (are_plain ps)).0 h in
    rw (same_piece (trim p) (plain_taken (trim p) both.0), same_all ps both.1)

pub same_hints : (s : List ℕ) → plain_statement s ≡ true → hints_of AsRust s ≡ hints_of ByFormat s
unfolding hints_of
same_hints s h = same_all (pieces (between s)) h

-- THE LAW: where no piece holds KEY and none begins with the letters of a constraint, both calls are asked for the same
pub same_answer : (s old : List ℕ) → plain_statement s ≡ true → statement_filling AsRust s old ≡ statement_filling ByFormat s old
unfolding statement_checks
same_answer s old h = rw (same_hints s h)

-- so they answer alike, and leave the same in their lists: the Rust's call is asked for its own filling
pub same_call : (s old : List ℕ) → plain_statement s ≡ true → statement.statement_filling s old ≡ statement_filling ByFormat s old
same_call s old h = sym (rust_filling s old) ∙ same_answer s old h

-- ---- the format's reading only adds
all_kept : (first : List ℕ) {hs all : List ℕ} → LeftOf hs all → LeftOf (first ++ hs) (first ++ all)
all_kept [] l = l
all_kept (h ∷ first) l = kept h (all_kept first l)

all_out : (first : List ℕ) {hs all : List ℕ} → LeftOf hs all → LeftOf hs (first ++ all)
all_out [] l = l
all_out (h ∷ first) l = out h (all_out first l)

dropped_none : (p : List ℕ) → is_dropped AsRust p ≡ true → piece_hints AsRust p ≡ []
unfolding piece_hints
dropped_none p t = rw (t, or-true)

some_out : (ps : List (List ℕ)) → LeftOf (all_hints AsRust ps) (all_hints ByFormat ps)
unfolding all_hints
some_out [] = none
some_out (p ∷ ps) =
    by_test (is_dropped AsRust (trim p))
    (λ t. rw (dropped_none (trim p) t) (all_out (piece_hints ByFormat (trim p)) (some_out ps)))
    (λ f. rw (same_piece (trim p) f) (all_kept (piece_hints ByFormat (trim p)) (some_out ps)))

-- THE LAW: the Rust's reading leaves out some of the hints by the format, and changes none
pub left_out : (s : List ℕ) → LeftOf (hints_of AsRust s) (hints_of ByFormat s)
unfolding hints_of
left_out s = some_out (pieces (between s))
