-- Rows of a part of a slice, read back over the slice.
-- Assumes nothing.
use Prim.Native.Nat.{ℕ, suc, ◌+◌}
use mathlib.Core.Path.{◌≡◌, refl, ap}
use mathlib.Core.List.{List, [], ◌∷◌, map}
use native.Mathlib.Omega.{arith}
use lib.ListN.{length}
use Rattle.attempt.proofs.ReadBack.{hit_reads, part_hit_reads}
use Rattle.attempt.specs.Attempt.{Found, hit, attempt_at}
use Rattle.attempt.specs.Values.{row_values}
use Rattle.hit.specs.Hit.{moved}
use Rattle.record.proofs.Shifts.{PartOf, moved_again}
use Rattle.record.specs.Value.{moved_value}
use Rattle.record.specs.declared.record.Value.{Value}
use Rattle.sheet.proofs.ReadBack.{HitReads}
use Rattle.sheet.specs.declared.columns.Column.{Column}
use Rattle.sheet.specs.declared.row.Row.{Row}

pub map_again : (a b : ℕ) (vs : List Value) → map (moved_value a) (map (moved_value b) vs) ≡ map (moved_value (a + b)) vs
map_again a b [] = refl
map_again a b (v ∷ vs) = rw (moved_again a b v, map_again a b vs)

pub moved_length : (by : ℕ) (cs : List Column) → length (moved by cs) ≡ length cs
moved_length by [] = refl
moved_length by (c ∷ cs) = ap suc (moved_length by cs)

-- THE LAW: a row that was found in the part, said of the slice
pub found_reads : {by : ℕ} {p s : List ℕ} → PartOf by p s → (hints : List ℕ) (o : ℕ) (x : Found) → attempt_at p hints o ≡ hit x → (row : Row)
    → HitReads s (length hints) (record { row = row; columns = moved by x.columns }) (map (moved_value by) (row_values p o))
found_reads {by} {p} {s} part hints o x e row =
    record { narrow = omega (arith, moved_length by x.columns, (hit_reads p hints o x e).0); as_values = part_hit_reads part hints o x e }
