-- What other crates rest on: they cite these laws and unfold no definition of this one.
-- Assumes nothing.
use Prim.Native.Nat.{ℕ, ◌+◌, ◌-◌, ◌*◌, ◌≤◌, ◌<◌}
use mathlib.Core.Path.{◌≡◌, ap, ◌∙◌}
use mathlib.Core.Bool.{Bool, false}
use mathlib.Core.List.{List, [], ◌∷◌}
use native.Mathlib.Omega.{arith}
use lib.ListN.{length, take, drop, length-drop}
use lib.Seq.{sets, take_all, length-sets}
use Rattle.attempt.proofs.Laws.{columns_at-length}
use Rattle.attempt.proofs.Shifts.{moved_at}
use Rattle.attempt.specs.Attempt.{Tried, kinds}
use Rattle.attempt.specs.Inner.{find_types, found_at, HitIs}
use Rattle.attempt.specs.declared.inner.Find.{Find}
use Rattle.hit.specs.Hit.{row_at, hit_of}
use Rattle.hit.specs.Inner.{Laid, hit_there, Fitting, Space, Ready}
use Rattle.hit.specs.declared.inner.Origin.{Origin}
use Rattle.hit.specs.declared.inner.Spot.{Spot}
use Rattle.sheet.proofs.Laws.{sets_append, columns_words-length, room_rows, room_cols}
use Rattle.sheet.specs.Columns.{unused_words, room_of}
use Rattle.sheet.specs.Limits.{words_per_row, words_per_entry}
use Rattle.sheet.specs.Sheet.{rows_words, columns_words}
use Rattle.sheet.specs.declared.row.Row.{Row}
use Rattle.sheet.proofs.Carving.{told_on}
use Rattle.sheet.proofs.Sheets.{adds_one}
use Rattle.sheet.specs.Hits.{Hit, rows_of, group_words, groups_words}
use Rattle.sheet.specs.Inner.{on, Told, PutsOne, Adds}
use Rattle.sheet.specs.declared.inner.Sheet.{Sheet}

-- a part that goes on to the end
pub part_is : (l : List ℕ) (v : ℕ) → take (length l - v) (drop v l) ≡ drop v l
part_is l v = take_all (length l - v) (drop v l) (rw length-drop (omega arith))

-- ---- columns

-- the columns, and behind them what pads the group
pub group_is : (cols : List ℕ) (group width columns : ℕ) (h : Hit) → length h.columns ≡ columns
    → sets (sets cols group (columns_words h.columns)) (group + words_per_entry * columns) (unused_words (width - columns)) ≡ sets cols group (group_words width h)
group_is cols group width columns h e =
    let words : length (columns_words h.columns) ≡ words_per_entry * columns = columns_words-length h.columns ∙ ap (λ (k : ℕ). words_per_entry * k) e in
    rw (e, ← words) (sets_append cols group (columns_words h.columns) (unused_words (width - columns)))

-- ---- a row that was found

pub there_length : (s : List ℕ) (o : ℕ) (x : Find) (by : ℕ) (row : Row) (columns : ℕ) → Laid s o x columns → length (hit_there s o x by row).columns ≡ columns
there_length s o x by row columns l = columns_at-length (by + (o + x.head)) (kinds (find_types s o x)) ∙ l.counts

-- THE LAW: what an attempt tells of is laid in the bytes,
pub find_laid : (s hints : List ℕ) (o : ℕ) (t : Tried) (p : List ℕ) (x : Find) → HitIs s hints o t p x → Laid s o x (length hints)
find_laid s hints o t p x is = record { headed = is.headed; bodies = omega (arith, is.bodies, is.inside); counts = is.columns }

-- and written it is the row that was found, said of the lent slice: its bytes begin at `part` of a page
module _ (d : List ℕ) (o : ℕ) (x : Find) (part : ℕ) (origin : Origin) (columns : ℕ) (spot : Spot) (s s' : Sheet) where
  abbrev hit : Hit
  hit = hit_there d o x (spot.start + part) (row_at spot (part + o) origin (found_at d o x))

  pub found_written : Laid d o x columns → columns ≤ s.width → s.n < s.room → PutsOne hit s s'
      → Adds (hit_of spot (part + o) part origin (found_at d o x) ∷ []) false s (on s'.n) s'
  found_written laid narrow below puts =
      let few = there_length d o x (spot.start + part) hit.row columns laid in
      rw (moved_at (spot.start + part) (o + x.head) (kinds (find_types d o x))) (adds_one s s' hit below (omega arith) puts)

-- ---- room
pub space_fits : (columns : ℕ) (s : Sheet) → Space columns s → s.n < s.room → Fitting columns s
space_fits columns s x h =
    let rows = length s.rows.now in
    let cols = length s.cols.now in
    let below : s.n < room_of rows cols s.width = omega (arith, x.room_most) in
    record {
      narrow = x.narrow;
      row = room_rows rows cols s.width s.n below;
      group = room_cols rows cols s.width s.n below;
    }

-- THE LAW: rows that are added keep the lists as long as they were,
module _ (hs : List Hit) (stopped : Bool) (s : Sheet) (r : Told) (s' : Sheet) (x : Adds hs stopped s r s') where
  pub adds_long : length s'.rows.now ≡ length s.rows.now
  adds_long =
      ap (λ (l : List ℕ). length l) x.carves.puts.rows_are ∙ length-sets s.rows.now (s.n * words_per_row) (rows_words (rows_of (take (s.room - s.n) hs)))

  pub adds_wide : length s'.cols.now ≡ length s.cols.now
  adds_wide =
      ap (λ (l : List ℕ). length l) x.carves.puts.cols_are
      ∙ length-sets s.cols.now (s.n * (words_per_entry * s.width)) (groups_words s.width (take (s.room - s.n) hs))

-- and where no row is left over there is space behind them
pub space_then : (columns : ℕ) (hs : List Hit) (s s' : Sheet) → Space columns s → Adds hs false s (on s'.n) s' → Space columns s'
space_then columns hs s s' a x =
    let t = told_on s.room s.n (length hs) s'.n false x.carves.answer in
    record {
      narrow = rw x.width a.narrow;
      room_most = rw (adds_long hs false s (on s'.n) s' x, adds_wide hs false s (on s'.n) s' x, x.width, x.room) a.room_most;
      fits = omega (arith, t.0, t.1, x.room);
    }

pub ready_then : (len columns : ℕ) (spot : Spot) (hs : List Hit) (s s' : Sheet) → Ready len columns spot s → Adds hs false s (on s'.n) s' → Ready len columns spot s'
ready_then len columns spot hs s s' a x =
    record { inside = a.inside; near = a.near; some = a.some; few = a.few; space = space_then columns hs s s' a.space x }

-- a part of a page is ready where the page is
pub ready_part : (len len' columns : ℕ) (spot : Spot) (s : Sheet) → len' ≤ len → Ready len columns spot s → Ready len' columns spot s
ready_part len len' columns spot s h a = record { inside = omega (arith, a.inside); near = a.near; some = a.some; few = a.few; space = a.space }
