-- The columns of the rows in a payload, read back over the slice in which it lies: the values of each row, every one at the place that its rule names.
-- Assumes nothing.
use Prim.Native.Nat.{ℕ, zero, suc, ◌+◌, ◌-◌, ◌≤◌}
use mathlib.Core.Path.{◌≡◌, refl}
use mathlib.Core.Bool.{Bool, true, false}
use mathlib.Core.List.{List, [], ◌∷◌, ◌++◌, map}
use native.Mathlib.Nat.{add_assoc, add-zero}
use native.Mathlib.Omega.{arith}
use lib.ListN.{length, take, drop, length-drop}
use Rattle.attempt.proofs.Laws.{made_from}
use Rattle.attempt.proofs.ReadBack.{values_moved, laid_reads, part_reads}
use Rattle.attempt.proofs.Shifts.{types_moved}
use Rattle.attempt.specs.Attempt.{Found, Tried, miss, hit, kinds}
use Rattle.attempt.specs.Inner.{header_types}
use Rattle.attempt.specs.Values.{values_from, row_values}
use Rattle.cells.specs.Cells.{CellRow, Looked, no_cell, cell, cell_at, cells_from, cells_of, starts_of, cell_hit, cell_hits, rebuilt_hit, start_hits, rebuilt_from, payload_hits}
use Rattle.cells.specs.Inner.{cells_there, next_place}
use Rattle.cells.specs.Values.{cell_values, cells_values, values_behind, rebuilt_values, start_values, rebuilt_values_from, payload_values, in_slice}
use Rattle.cells.proofs.Looking.{cell_from, cells_none, cells_end, cells_on}
use Rattle.hit.proofs.ReadBack.{map_again, moved_length, found_reads}
use Rattle.hit.specs.declared.inner.Spot.{Spot}
use Rattle.page.specs.Page.{among}
use Rattle.rebuild.proofs.From.{rebuilt_from_lem}
use Rattle.rebuild.specs.Header.{most_by, takes, rebuilt}
use Rattle.rebuild.specs.declared.rebuilding.Rebuilding.{Rebuilding}
use Rattle.record.proofs.Numbers.{by_order}
use Rattle.record.proofs.Shifts.{PartOf, part_taken, part_rest, part_within}
use Rattle.record.specs.Value.{moved_value}
use Rattle.record.specs.declared.record.Value.{Value}
use Rattle.sheet.proofs.ReadBack.{HitReads, AllFit, fit_append}
use Rattle.starts.specs.Starts.{rebuilt_starts}

-- ---- values of the payload, said of the slice
slice_append : (by : ℕ) (x y : List (List Value)) → in_slice by (x ++ y) ≡ in_slice by x ++ in_slice by y
slice_append by [] y = refl
slice_append by (v ∷ x) y = rw (slice_append by x y)

-- ---- the payload d stands at o in its page, which stands in the slice s
module _ (s : List ℕ) (spot : Spot) (o : ℕ) (d hints : List ℕ) (part : PartOf (spot.start + o) d s) where
  -- THE LAW: a cell's row reads as the row of its record
  pub cell_reads : (pos : ℕ) (c : CellRow) → cell_at d hints pos ≡ cell c
      → HitReads s (length hints) (cell_hit spot (length hints) (o + c.at) c.id c.found) (map (moved_value (spot.start + o)) (cell_values d c))
  cell_reads pos c e =
      let f = cell_from d hints pos c e in
      let there = part_within (part_taken d c.at (c.end - c.at) (omega (arith, f.some, f.inside))) part in
      rw (← add_assoc spot.start o c.at, map_again (spot.start + o) c.at (row_values (take (c.end - c.at) (drop c.at d)) 0))
      (found_reads there hints 0 c.found f.found _)

  cells_read : (f pos : ℕ) → AllFit s (length hints) (cell_hits spot (length hints) o (cells_from f d hints pos)) (in_slice (spot.start + o) (cells_values d (cells_from f d hints pos)))
  cells_read zero pos = rw (cells_none d hints pos) tt
  cells_read (suc f) pos =
      by_order pos (length d)
      (λ lt. rw (cells_on d hints f pos lt) (go (cell_at d hints pos) refl (λ next. cells_read f next)))
      (λ ge. rw (cells_end d hints (suc f) pos ge) tt)
    where
      go : (l : Looked) → cell_at d hints pos ≡ l
          → ((next : ℕ) → AllFit s (length hints) (cell_hits spot (length hints) o (cells_from f d hints next)) (in_slice (spot.start + o) (cells_values d (cells_from f d hints next))))
          → AllFit s (length hints) (cell_hits spot (length hints) o (cells_there l ++ cells_from f d hints (next_place pos l))) (in_slice (spot.start + o) (cells_values d (cells_there l ++ cells_from f d hints (next_place pos l))))
      go no_cell e rest = rest (suc pos)
      go (cell c) e rest = (cell_reads pos c e, rest c.end)

  module _ (how : Rebuilding) (some : 1 ≤ length hints) (few : length hints ≤ most_by how) where
    abbrev h : ℕ
    h = length hints

    -- THE LAW: a rebuilt row reads as the types in the bytes that its header takes from v on, with their bodies behind these bytes
    pub rebuilt_reads : (v : ℕ) (x : Found) → v ≤ length d → rebuilt how d hints v ≡ hit x
        → HitReads s h (rebuilt_hit spot h (o + v) x) (map (moved_value (spot.start + o)) (rebuilt_values how d h v))
    rebuilt_reads v x start e =
        let f = rebuilt_from_lem how d hints v x start some few e in
        let t = f.types in
        let rest = part_rest d v start in
        let long : length (drop v d) ≡ length d - v = length-drop v d in
        let ts = kinds (header_types (drop v d) 0 t 0) in
        let m = made_from (length (drop v d)) hints 0 t _ f.found (omega (arith, f.fits)) (header_types (drop v d) 0 t 0) f.made in
        let kinds_are = (types_moved rest (omega arith) t t 0 (0 + t) (omega arith) (omega arith)).kinds_are in
        let place : v + (0 + t) ≡ v + t = omega arith in
        let values : values_behind d v (takes t) ≡ map (moved_value v) (values_from (drop v d) (0 + t) ts) =
        rw (rw (add-zero v, place) at kinds_are, ← place) (values_moved rest (0 + t) ts f.found.columns (0 + f.found.consumed) m.bodies) in
        rw (← add_assoc spot.start o v, ← f.same, f.guess, values, map_again (spot.start + o) v (values_from (drop v d) (0 + t) ts))
        (record {
          narrow = omega (arith, moved_length (spot.start + o + v) f.found.columns, (laid_reads (drop v d) (0 + t) ts f.found.columns (0 + f.found.consumed) m.bodies).counts, m.counts);
          as_values = part_reads (part_within rest part) (0 + t) ts f.found.columns (0 + f.found.consumed) m.bodies;
        })

    starts_read : (S : List ℕ) (k v : ℕ) → v + k ≤ suc (length d) → AllFit s (length hints) (rebuilt_from k how spot o S d hints v) (in_slice (spot.start + o) (rebuilt_values_from k how S d hints v))
    unfolding rebuilt_from rebuilt_values_from
    starts_read S zero v q = tt
    starts_read S (suc k) v q =
        rw (slice_append (spot.start + o) (start_values how d h v (among v S) (rebuilt how d hints v)) (rebuilt_values_from k how S d hints (suc v)))
        (fit_append s (length hints) (start_hits spot h o v (among v S) (rebuilt how d hints v)) (rebuilt_from k how spot o S d hints (suc v)) _ _ (one (among v S) (rebuilt how d hints v) refl) (starts_read S k (suc v) (omega arith)))
      where
        one : (b : Bool) (t : Tried) → rebuilt how d hints v ≡ t → AllFit s (length hints) (start_hits spot h o v b t) (in_slice (spot.start + o) (start_values how d h v b t))
        one true t e = tt
        one false miss e = tt
        one false (hit x) e = (rebuilt_reads v x (omega arith) e, tt)

    -- THE LAW: all rows of the payload
    pub payload_reads : AllFit s (length hints) (payload_hits how spot o d hints) (in_slice (spot.start + o) (payload_values how d hints))
    unfolding payload_hits payload_values cells_of
    payload_reads =
        let cs = cells_from (length d) d hints 0 in
        rw (slice_append (spot.start + o) (cells_values d cs) (rebuilt_values_from (rebuilt_starts (length d) h) how (starts_of cs) d hints 0))
        (fit_append s (length hints) (cell_hits spot h o cs) (rebuilt_from (rebuilt_starts (length d) h) how spot o (starts_of cs) d hints 0) _ _ (cells_read (length d) 0)
        (starts_read (starts_of cs) (rebuilt_starts (length d) h) 0 (omega arith)))
