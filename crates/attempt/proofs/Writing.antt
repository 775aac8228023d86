-- The columns of a row, written one after the other: what is written, with what is left to write, comes to the whole.
-- Assumes nothing.
use Rattle.std.specs.Prelude.{None, Some}
use Prim.Native.Nat.{ℕ, zero, suc, ◌+◌, ◌*◌, ◌≤◌, ◌<◌}
use mathlib.Core.Path.{◌≡◌, refl, ◌∙◌}
use mathlib.Core.List.{List}
use native.Mathlib.Omega.{arith}
use lib.ListN.{length}
use lib.Seq.{sets}
use Rattle.record.specs.Varint.{varint_at}
use Rattle.record.specs.declared.varint.Cursor.{Cursor}
use Rattle.attempt.specs.Attempt.{kinds, types_from}
use Rattle.attempt.specs.Inner.{body_size, sizes, columns_at}
use Rattle.sheet.specs.Sheet.{columns_words}
use Rattle.attempt.proofs.Types.{types_step, types_cut, types_end_lem}
use Rattle.sheet.proofs.Laws.{column_words-length, sets_append}
use Rattle.sheet.specs.Columns.{column_words}
use Rattle.sheet.specs.Limits.{words_per_entry}
use Rattle.sheet.specs.declared.columns.Column.TheVariants.{Body}

-- ts are all types, written from word k of cols₀ on with bodies from start₀ on; those of the list rs are left
pub record Written (ts : List ℕ) (start₀ : ℕ) (cols₀ : List ℕ) (k : ℕ) (rs : List ℕ) (start : ℕ) (cols : List ℕ) (to : ℕ) : Type 0 where
  pub lists : sets cols to (columns_words (columns_at start rs)) ≡ sets cols₀ k (columns_words (columns_at start₀ ts))
  pub long : length cols ≡ length cols₀
  pub ends : start + sizes rs ≡ start₀ + sizes ts
  pub words : to + words_per_entry * length rs ≡ k + words_per_entry * length ts

-- with fuel for what is left
pub Writing : (s ts : List ℕ) (stop start₀ : ℕ) (cols₀ : List ℕ) (k at start : ℕ) (cols : List ℕ) (to : ℕ) → Type 0
Writing s ts stop start₀ cols₀ k at start cols to =
    (f : ℕ) × (stop ≤ at + f) × Written ts start₀ cols₀ k (kinds (types_from f s at stop)) start cols to

pub writing_start : (f : ℕ) (s : List ℕ) (at stop start : ℕ) (cols : List ℕ) (k : ℕ) → stop ≤ at + f → Writing s (kinds (types_from f s at stop)) stop start cols k at start cols k
unfolding Writing
writing_start f s at stop start cols k h = (f, h, record { lists = refl; long = refl; ends = refl; words = refl })

module _ (s ts : List ℕ) (stop start₀ : ℕ) (cols₀ : List ℕ) (k at start : ℕ) (cols : List ℕ) (to : ℕ) where
  pub writing_long : Writing s ts stop start₀ cols₀ k at start cols to → length cols ≡ length cols₀
  unfolding Writing
  writing_long (f, q, w) = w.long

  module _ (t : ℕ) (c : Cursor) (h : at < stop) (e : varint_at s at ≡ Some (t, c)) where
    -- there is room for the next column, and its body ends no later than the last
    pub writing_room : Writing s ts stop start₀ cols₀ k at start cols to
        → (to + words_per_entry ≤ k + words_per_entry * length ts) × (start + body_size t ≤ start₀ + sizes ts)
    unfolding Writing
    writing_room (zero, q, w) = absurd (omega arith)
    writing_room (suc f, q, w) =
        let v = rw (types_step f s at stop t c h e) at w in
        (omega (arith, v.words), omega (arith, v.ends))

    pub writing_step : (cols' : List ℕ) → at < c.at → cols' ≡ sets cols to (column_words (Body t start (body_size t))) → length cols' ≡ length cols
        → Writing s ts stop start₀ cols₀ k at start cols to → Writing s ts stop start₀ cols₀ k c.at (start + body_size t) cols' (to + words_per_entry)
    unfolding Writing
    writing_step cols' p is long (zero, q, w) = absurd (omega arith)
    writing_step cols' p is long (suc f, q, w) =
        let v = rw (types_step f s at stop t c h e) at w in
        let n : to + words_per_entry ≡ to + length (column_words (Body t start (body_size t))) = omega (arith, column_words-length (Body t start (body_size t))) in (
          f,
          omega arith,
          record {
            lists = rw (is, n) (sets_append cols to (column_words (Body t start (body_size t))) (columns_words (columns_at (start + body_size t) (kinds (types_from f s c.at stop)))) ∙ v.lists);
            long = long ∙ v.long;
            ends = omega (arith, v.ends);
            words = omega (arith, v.words);
          },
        )

  pub writing_cut : at < stop → varint_at s at ≡ None → Writing s ts stop start₀ cols₀ k at start cols to → cols ≡ sets cols₀ k (columns_words (columns_at start₀ ts))
  unfolding Writing
  writing_cut h e (zero, q, w) = absurd (omega arith)
  writing_cut h e (suc f, q, w) = (rw (types_cut f s at stop h e) at w).lists

  pub writing_end : stop ≤ at → Writing s ts stop start₀ cols₀ k at start cols to → cols ≡ sets cols₀ k (columns_words (columns_at start₀ ts))
  unfolding Writing
  writing_end h (f, q, w) = (rw (types_end_lem f s at stop h) at w).lists
