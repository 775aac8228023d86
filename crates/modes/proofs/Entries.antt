-- Columns read back from the words that say them: each is the value of its type at its place, or NULL.
-- Assumes nothing.
use Rattle.std.specs.Prelude.{None, Some}
use Prim.Native.Nat.{ℕ, zero, suc, ◌+◌, ◌≤◌, ◌<◌}
use mathlib.Core.Path.{◌≡◌, refl}
use mathlib.Core.List.{List, [], ◌∷◌}
use native.Mathlib.Omega.{arith}
use borrow.Author.Tests.{le-leb, lt-leb}
use lib.ListN.{length, replicate, length-append}
use Rattle.modes.specs.Found.{Found, columns_from, lost_columns, found_hits}
use Rattle.modes.specs.Values.{values_from, rows_values}
use Rattle.modes.proofs.Bodies.{column_body, column_out, column_none, columns_nil, columns_cons, columns_count}
use Rattle.modes.proofs.Writing.{lost_length}
use Rattle.record.proofs.Numbers.{by_order}
use Rattle.record.specs.Value.{body_length, value_of}
use Rattle.record.specs.Value.{Length}
use Rattle.record.specs.declared.record.Value.TheVariants.{Null}
use Rattle.sheet.proofs.ReadBack.{Reads, reads_nil, reads_body, reads_unfit, reads_lost, reads_append, AllFit}

module _ (s : List ℕ) where
  values_nil : (at : ℕ) → values_from s at [] ≡ []
  unfolding values_from
  values_nil at = refl

  module _ (at t : ℕ) (ts : List ℕ) where
    values_body : (n : ℕ) → body_length t ≡ Some n → at + n ≤ length s → values_from s at (t ∷ ts) ≡ value_of t s at n ∷ values_from s (at + n) ts
    unfolding values_from
    values_body n l h = simp (l, le-leb (at + n) (length s) h)

    values_out : (n : ℕ) → body_length t ≡ Some n → length s < at + n → values_from s at (t ∷ ts) ≡ Null ∷ values_from s at ts
    unfolding values_from
    values_out n l h = simp (l, lt-leb (at + n) (length s) h)

    values_none : body_length t ≡ None → values_from s at (t ∷ ts) ≡ Null ∷ values_from s at ts
    unfolding values_from
    values_none l = rw l

  -- THE LAW: the columns of types read as the values at the places that the rule names
  pub bodies_read : (at : ℕ) (ts : List ℕ) → Reads s (columns_from (length s) at ts) (values_from s at ts)
  bodies_read at [] = rw (columns_nil (length s) at, values_nil at) (reads_nil s)
  bodies_read at (t ∷ ts) = go (body_length t) refl (λ next. bodies_read next ts)
    where
      go : (l : Length) → body_length t ≡ l → ((next : ℕ) → Reads s (columns_from (length s) next ts) (values_from s next ts))
          → Reads s (columns_from (length s) at (t ∷ ts)) (values_from s at (t ∷ ts))
      go None l rest =
          rw (columns_cons (length s) at t ts, column_none (length s) at t l, values_none at t ts l) (reads_unfit s t _ _ (rest at))
      go (Some n) l rest =
          by_order (length s) (at + n)
          (λ out. rw (columns_cons (length s) at t ts, column_out (length s) at t n l out, values_out at t ts n l out) (reads_unfit s t _ _ (rest at)))
          (λ in'. rw (columns_cons (length s) at t ts, column_body (length s) at t n l in', values_body at t ts n l in') (reads_body s t at n _ _ l in' (rest (at + n))))

  lost_read : (n : ℕ) → Reads s (lost_columns n) (replicate n Null)
  lost_read zero = reads_nil s
  lost_read (suc n) = reads_lost s (lost_columns n) (replicate n Null) (lost_read n)

-- ---- rows
-- none of them has more columns than there may be
abbrev pub AllFew : ℕ → List Found → Type 0
AllFew columns [] = Unit
AllFew columns (x ∷ xs) = (x.style.lost + length x.types ≤ columns) × AllFew columns xs

-- THE LAW: such rows read as their values
pub found_fit : (s : List ℕ) (base columns : ℕ) (xs : List Found) → AllFew columns xs → AllFit s columns (found_hits (length s) base xs) (rows_values s xs)
found_fit s base columns [] few = tt
found_fit s base columns (x ∷ xs) few =
    let lost = lost_columns x.style.lost in
    let read = columns_from (length s) x.start x.types in (
      record {
        narrow = omega (arith, length-append lost read, lost_length x.style.lost, columns_count (length s) x.start x.types, few.0);
        as_values = reads_append s lost read _ _ (lost_read s x.style.lost) (bodies_read s x.start x.types);
      },
      found_fit s base columns xs few.1,
    )
