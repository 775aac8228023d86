-- One start is carved: it is passed over, or has no row, or the row that is rebuilt there.
-- Assumes nothing.
use Rattle.std.specs.Prelude.{None}
use Prim.Native.Nat.{ℕ, ◌+◌, ◌≤◌}
use mathlib.Core.Path.{◌≡◌, sym, ◌∙◌}
use mathlib.Core.Bool.{false}
use mathlib.Core.List.{List, [], ◌∷◌}
use native.Mathlib.Nat.{add_assoc}
use lib.ListN.{length}
use Rattle.attempt.proofs.Shifts.{moved_at}
use Rattle.attempt.specs.Attempt.{miss, kinds}
use Rattle.attempt.specs.Inner.{columns_at, find_types, found_at}
use Rattle.attempt.specs.Moved.{moved}
use Rattle.attempt.specs.declared.inner.Find.{Find}
use Rattle.cells.specs.Cells.{rebuilt_hit, start_hits}
use Rattle.hit.specs.Hit.{intra_page, hit_of}
use Rattle.hit.specs.declared.inner.Origin.{Origin}
use Rattle.hit.specs.declared.inner.Spot.{Spot}
use Rattle.rebuild.specs.Header.{rebuilt}
use Rattle.rebuild.specs.Inner.{found_from, RebuiltFound}
use Rattle.rebuild.specs.declared.rebuilding.Rebuilding.{Rebuilding}
use Rattle.sheet.specs.Confidence.{share, rebuilt_share}
use Rattle.sheet.proofs.Sheets.{adds_none}
use Rattle.sheet.specs.Inner.{Told, on, Adds}
use Rattle.sheet.specs.declared.inner.Sheet.{Sheet}

moved_twice : (a b : ℕ) (at : ℕ) (ts : List ℕ) → moved a (columns_at (b + at) ts) ≡ moved (a + b) (columns_at at ts)
moved_twice a b at ts = moved_at a (b + at) ts ∙ rw (← add_assoc a b at) (sym (moved_at (a + b) at ts))

-- the row at v of the payload is the one that is said of the bytes from v on
rebuilt_is : (d : List ℕ) (v : ℕ) (x : Find) (columns : ℕ) (spot : Spot) (o : ℕ)
    → hit_of spot (o + v) o (intra_page None (rebuilt_share (share x.matched columns))) (found_at d v x) ≡ rebuilt_hit spot columns (o + v) (found_from d v x)
rebuilt_is d v x columns spot o = rw (moved_twice (spot.start + o) v x.head (kinds (find_types d v x)), add_assoc spot.start o v)

module _ (how : Rebuilding) (d hints : List ℕ) (v : ℕ) (spot : Spot) (o : ℕ) (s : Sheet) where
  abbrev Started : Told → Sheet → Type 0
  Started r s' = Adds (start_hits spot (length hints) o v false (rebuilt how d hints v)) false s r s'

  pub start_none : s.n ≤ s.room → rebuilt how d hints v ≡ miss → Started (on s.n) s
  start_none fits m = rw m (adds_none s fits)

  pub start_one : (x : Find) → RebuiltFound how d hints v x → (origin : Origin) (r : Told) (s' : Sheet)
      → origin ≡ intra_page None (rebuilt_share (share x.matched (length hints)))
      → Adds (hit_of spot (o + v) o origin (found_at d v x) ∷ []) false s r s' → Started r s'
  start_one x f origin r s' g c = rw f.is (rw (g, rebuilt_is d v x (length hints) spot o) at c)
