-- The calls on one page: what their checks leave, and what a page of a database comes to.
-- Assumes nothing.
use Rattle.std.specs.Prelude.{Err, Ok, Option}
use Prim.Native.Nat.{ℕ, ◌+◌, ◌-◌, ◌≤◌}
use mathlib.Core.Path.{◌≡◌, refl}
use mathlib.Core.Bool.{true, false}
use mathlib.Core.List.{List, ◌∷◌}
use native.Mathlib.Omega.{arith}
use lib.Dec.{ltb}
use lib.ListN.{length, take, drop, length-take, length-drop}
use Rattle.carving.specs.Calls.{width_by, too_wide, hits_by, slice_spot, page_spot, leaf_hits, numbered_checks}
use Rattle.carving.specs.Inner.{Filling}
use Rattle.carving.specs.declared.inner.Carving.{Carving}
use Rattle.hit.specs.Inner.{Ready}
use Rattle.hit.specs.declared.inner.Spot.{Spot}
use Rattle.page.proofs.Laws.{PagedAt}
use Rattle.page.specs.Page.{start_of, head_of, page_checks}
use Rattle.sheet.proofs.Laws.{count_fits_lem, slice_fits}
use Rattle.sheet.proofs.Filling.{adds_filled}
use Rattle.sheet.specs.Columns.{room_of}
use Rattle.sheet.specs.Hits.{Hit, row_outcome}
use Rattle.sheet.specs.Inner.{told_by, Adds, filled_to, FilledIs}
use Rattle.sheet.specs.declared.filled.Filled.{Filled}
use Rattle.sheet.specs.Limits.{count_fits, hints_known}
use Rattle.sheet.specs.Refusal.{Check, first_held}
use Rattle.sheet.specs.Slice.{slice_checks}
use Rattle.sheet.specs.declared.inner.Sheet.{Sheet}
use Rattle.sheet.specs.declared.refusal.Refusal.TheVariants.{ColumnCount, Malformed}

-- ---- a table that is too wide for its way refuses, and otherwise the rest of the list decides
module _ (how : Carving) (columns : ℕ) (rest : List Check) where
  pub wide_refuses : ltb (width_by how) columns ≡ true → first_held (too_wide how columns ∷ rest) ≡ Err ColumnCount
  wide_refuses e = simp e

  pub narrow_on : ltb (width_by how) columns ≡ false → first_held (too_wide how columns ∷ rest) ≡ first_held rest
  narrow_on e = simp e

-- ---- lists that hold nothing yet are ready
pub empty_ready : {how : Carving} {len columns : ℕ} {spot : Spot} (s : Sheet) → Filling how len columns spot → s.room ≡ room_of (length s.rows.now) (length s.cols.now) s.width → s.width ≡ columns
    → s.n ≡ 0 → Ready len columns spot s
empty_ready s f r w z =
    record {
      inside = f.inside;
      near = f.near;
      some = f.some;
      few = f.few;
      space = record { narrow = omega arith; room_most = omega arith; fits = omega arith };
    }

-- and filled they are as they should be
pub lists_filled : (hits : List Hit) (s s' : Sheet) (r : Option Unit) (x : Filled) (rows cols : List ℕ) → s.room ≡ room_of (length s.rows.now) (length s.cols.now) s.width → s.n ≡ 0
    → Adds hits false s (told_by r s') s' → x ≡ filled_to s' r → rows ≡ s'.rows.now → cols ≡ s'.cols.now
    → FilledIs hits s.width s.rows.now s.cols.now (row_outcome (Ok x) rows cols)
lists_filled hits s s' r x rows cols full z a e f g =
    rw (e, f, g) (adds_filled s.rows.now s.cols.now s.width hits s s' r (record { rows_are = refl; cols_are = refl; width_is = refl; room_is = full; n_is = z }) a)

-- ---- a slice
pub slice_filling_lem : (how : Carving) (len : ℕ) (hints : List ℕ) (base : ℕ) → length hints ≤ width_by how → first_held (slice_checks len hints base) ≡ (Ok tt) → Filling how len (length hints) (slice_spot base)
slice_filling_lem how len hints base narrow e =
    let f = slice_fits len hints base e in
    record { inside = omega (arith, f.small); near = f.near; some = f.some; few = f.few; narrow = narrow }

-- ---- a page by its number
module _ (len size p : ℕ) (hints : List ℕ) where
  pub bad_count : count_fits (length hints) ≡ false → first_held (numbered_checks len size p hints) ≡ Err ColumnCount
  bad_count e = simp e

  module _ (fit : count_fits (length hints) ≡ true) where
    pub bad_hints : hints_known hints ≡ false → first_held (numbered_checks len size p hints) ≡ Err Malformed
    bad_hints e = simp (fit, e)

    -- the rest of the list decides
    pub page_decides : hints_known hints ≡ true → first_held (numbered_checks len size p hints) ≡ first_held (page_checks len size p)
    page_decides e = simp (fit, e)

    pub page_filling : (how : Carving) → length hints ≤ width_by how → (start long head : ℕ) → PagedAt len size p start long head → Filling how long (length hints) (page_spot start 0)
    page_filling how narrow start long head at =
        let k = count_fits_lem (length hints) fit in
        record { inside = omega (arith, at.inside, at.small); near = omega (arith, at.inside, at.small); some = k.0; few = k.1; narrow = narrow }

-- ---- what stands on a page of a database
pub hits_are : (how : Carving) (db : List ℕ) (size p : ℕ) (hints : List ℕ) (table start long head : ℕ) → start ≡ start_of size p → long ≡ size → head ≡ head_of p
    → hits_by how (take (start + long - start) (drop start db)) head hints (page_spot start table) ≡ leaf_hits how db size table hints p
unfolding leaf_hits
hits_are how db size p hints table start long head s l h = let e : start + long - start ≡ long = omega arith in rw (e, s, l, h)

pub part_long : (db : List ℕ) (start long : ℕ) → start + long ≤ length db → length (take (start + long - start) (drop start db)) ≡ long
part_long db start long h = simp (length-take, length-drop) (omega arith)
