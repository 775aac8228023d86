-- The columns of a row, read back from the words that say them: the values of the row's types, each at its place.
-- Assumes nothing.
use Rattle.std.specs.Prelude.{Some}
use Prim.Native.Nat.{ℕ, suc, ◌+◌}
use mathlib.Core.Path.{◌≡◌, refl, sym, ap, ◌∙◌}
use mathlib.Core.List.{List, [], ◌∷◌, map}
use native.Mathlib.Nat.{add_assoc}
use lib.ListN.{length}
use Rattle.attempt.specs.Attempt.{laid, bodies_from, Found, hit, attempt_at, kinds}
use Rattle.attempt.specs.Inner.{header_types}
use Rattle.attempt.specs.Moved.{moved}
use Rattle.attempt.specs.Values.{values_from, row_values}
use Rattle.attempt.proofs.Bodies.{over_laid}
use Rattle.attempt.proofs.Laws.{hit_from}
use Rattle.attempt.proofs.Shifts.{laid_moved}
use Rattle.record.proofs.Shifts.{PartOf, value_moved}
use Rattle.record.specs.Value.{body_length, value_of, moved_value}
use Rattle.sheet.proofs.ReadBack.{Reads, reads_nil, reads_body}
use Rattle.sheet.specs.declared.columns.Column.{Column}

values_step : (s : List ℕ) (at t : ℕ) (ts : List ℕ) (n : ℕ) → body_length t ≡ Some n → values_from s at (t ∷ ts) ≡ value_of t s at n ∷ values_from s (at + n) ts
unfolding values_from
values_step s at t ts n e = rw e

values_end : (s : List ℕ) (at : ℕ) → values_from s at [] ≡ []
unfolding values_from
values_end s at = refl

-- columns that are the bodies of types, from `at` on: as many, and each the value of its type
pub record ReadsAs (s : List ℕ) (at : ℕ) (ts : List ℕ) (cs : List Column) : Type 0 where
  pub counts : length cs ≡ length ts
  pub as_values : Reads s cs (values_from s at ts)

module _ (s : List ℕ) where
  pub laid_reads : (at : ℕ) (ts : List ℕ) (cs : List Column) (end : ℕ) → bodies_from (length s) at ts ≡ laid cs end → ReadsAs s at ts cs
  laid_reads at ts cs end =
      over_laid (length s) end (ReadsAs s)
      (record { counts = refl; as_values = rw (values_end s end) (reads_nil s) })
      (λ at t ts n ds l in' r.
      record { counts = ap suc r.counts; as_values = rw (values_step s at t ts n l) (reads_body s t at n ds _ l in' r.as_values) })
      at ts cs

  -- THE LAW: the columns of a row that was found
  pub hit_reads : (hints : List ℕ) (o : ℕ) (x : Found) → attempt_at s hints o ≡ hit x → (length x.columns ≡ length hints) × Reads s x.columns (row_values s o)
  unfolding row_values
  hit_reads hints o x e =
      let f = hit_from s hints o x e in
      let r = laid_reads (o + f.head) (kinds (header_types s o f.head f.next.at)) x.columns (o + x.consumed) f.made.bodies in
      (r.counts ∙ f.made.counts, rw f.read r.as_values)

-- ---- a part of a slice
module _ {by : ℕ} {p s : List ℕ} (part : PartOf by p s) where
  -- THE LAW: values do not change where a part is said of the slice
  pub values_moved : (at : ℕ) (ts : List ℕ) (cs : List Column) (end : ℕ) → bodies_from (length p) at ts ≡ laid cs end
      → values_from s (by + at) ts ≡ map (moved_value by) (values_from p at ts)
  values_moved at ts cs end =
      over_laid (length p) end (λ at ts cs. values_from s (by + at) ts ≡ map (moved_value by) (values_from p at ts))
      (values_end s (by + end) ∙ sym (ap (map (moved_value by)) (values_end p end)))
      (λ at t ts n ds l in' rest. rw (values_step s (by + at) t ts n l, values_step p at t ts n l, add_assoc by at n, rest, value_moved part t at n in'))
      at ts cs

  -- THE LAW: columns of the part, said of the slice, read over the slice as the values that they are in the part
  pub part_reads : (at : ℕ) (ts : List ℕ) (cs : List Column) (end : ℕ) → bodies_from (length p) at ts ≡ laid cs end
      → Reads s (moved by cs) (map (moved_value by) (values_from p at ts))
  part_reads at ts cs end e =
      rw (values_moved at ts cs end e) at (laid_reads s (by + at) ts (moved by cs) (by + end) (laid_moved by (length p) at ts cs end (length s) part.ends e)).as_values

  -- THE LAW: so the columns of a row that was found in the part
  pub part_hit_reads : (hints : List ℕ) (o : ℕ) (x : Found) → attempt_at p hints o ≡ hit x → Reads s (moved by x.columns) (map (moved_value by) (row_values p o))
  unfolding row_values
  part_hit_reads hints o x e =
      let f = hit_from p hints o x e in
      rw f.read (part_reads (o + f.head) (kinds (header_types p o f.head f.next.at)) x.columns (o + x.consumed) f.made.bodies)
