-- `sheet::inner::put_unused` meets its contract.
-- Assumes nothing.
use Prim.Native.Nat.{ℕ, zero, suc, ◌+◌, ◌*◌}
use mathlib.Core.Path.{◌≡◌, refl, sym, ap, ◌∙◌}
use mathlib.Core.List.{List, ◌++◌, append-nil, append_assoc}
use native.Mathlib.Numerals.{add-one}
use lib.Seq.{sets}
use Rattle.sheet.specs.Columns.{column_words, unused_words}
use Rattle.sheet.specs.Limits.{words_per_entry}
use Rattle.sheet.specs.declared.columns.Column.TheVariants.{Unused}
use Rattle.sheet.proofs.Laws.{sets_append, unused_words-length}
use Rattle.sheet.proofs.inner.put_unused.Goals as goal

-- one entry more at the end
one_more : (n : ℕ) → unused_words n ++ column_words Unused ≡ unused_words (n + 1)
unfolding unused_words
one_more zero = sym (append-nil (column_words Unused))
one_more (suc n) = rw add-one (append_assoc (column_words Unused) (unused_words n) (column_words Unused) ∙ ap (λ (ws : List ℕ). column_words Unused ++ ws) (one_more n ∙ rw add-one))

written : (cols : List ℕ) (at n : ℕ) →
    sets (sets cols at (unused_words n)) (at + words_per_entry * n) (column_words Unused) ≡ sets cols at (unused_words (n + 1))
written cols at n = rw (← unused_words-length n, sets_append, one_more)

pub loop-k-init : goal.loop-k-init
unfolding unused_words
loop-k-init c = refl

pub loop-k-preserved : goal.loop-k-preserved
loop-k-preserved c = rw (c.put_column.ensures, c.loop-k.invariant) (written c.args.cols.now c.args.at c.loop-k.k)
