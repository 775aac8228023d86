-- In the Rust's reading the definitions of `readings` are those of `statement`.
-- Assumes nothing.
use Prim.Native.Nat.{ℕ}
use mathlib.Core.Path.{◌≡◌, refl, sym}
use Rattle.std.proofs.Math.Bool.{or_assoc}
use mathlib.Core.List.{List, [], ◌∷◌}
use lib.Dec.{eqb}
use lib.ListN.{length}
use Rattle.words.specs.Words.{trim, pieces}
use Rattle.column.specs.Column as column
use Rattle.column.specs.declared.piece.Reading.TheVariants.{AsRust}
use Rattle.readings.specs.Statement as readings
use Rattle.statement.specs.Statement as statement

-- a piece gives the same hint
pub rust_piece : (p : List ℕ) → column.piece_hints AsRust p ≡ statement.piece_hints p
unfolding column.piece_hints column.is_dropped column.is_row_id column.column_hint column.hint_of statement.piece_hints statement.is_skipped statement.is_row_id statement.hint_of
rust_piece p = rw (sym (or_assoc (eqb (length p) 0) (column.is_row_id p) (column.begins_as_constraint p)))

pub rust_all : (ps : List (List ℕ)) → readings.all_hints AsRust ps ≡ statement.all_hints ps
unfolding readings.all_hints statement.all_hints
rust_all [] = refl
rust_all (p ∷ ps) = rw (rust_piece (trim p), rust_all ps)

pub rust_between : (s : List ℕ) → readings.between s ≡ statement.between s
unfolding readings.between statement.between
rust_between s = refl

pub rust_hints : (s : List ℕ) → readings.hints_of AsRust s ≡ statement.hints_of s
unfolding readings.hints_of statement.hints_of
rust_hints s = rw (rust_between s) (rust_all (pieces (statement.between s)))

pub rust_checks : (s : List ℕ) → readings.statement_checks AsRust s ≡ statement.statement_checks s
unfolding readings.statement_checks statement.statement_checks
rust_checks s = rw (rust_hints s)

-- THE LAW: the two are asked for the same
pub rust_filling : (s old : List ℕ) → readings.statement_filling AsRust s old ≡ statement.statement_filling s old
rust_filling s old = rw (rust_checks s, rust_hints s)
