-- Starts that are passed over: the rows of cells stand in the lent list in rising order, so that the next of them decides.
-- Assumes nothing.
use Prim.Native.Nat.{ℕ, zero, suc, ◌+◌, ◌-◌, ◌*◌, ◌≤◌, ◌<◌}
use mathlib.Core.Path.{◌≡◌, refl, sym, ap, ◌∙◌, subst}
use mathlib.Core.Bool.{Bool, true, false, cond}
use mathlib.Core.List.{List, [], ◌∷◌, ◌++◌}
use mathlib.Core.Logic.{by_cases}
use native.Mathlib.Decide.{ℕ_discrete}
use native.Mathlib.Omega.{arith}
use borrow.Author.Tests.{lt-ltb, le-ltb, eq-eqb, ne_eqb}
use lib.Dec.{eqb}
use lib.ListN.{length, take, drop, get_or, set}
use lib.Seq.{sets, length-sets, get_or-set_same, get_or-set_other, take_all}
use Rattle.cells.specs.Cells.{CellRow, Looked, no_cell, cell, cell_at, cells_from, cells_of, cell_hit, cell_hits, starts_of}
use Rattle.cells.specs.Inner.{cells_there, next_place, Standing}
use Rattle.cells.proofs.Looking.{cell_from, cells_none, cells_end, cells_on}
use Rattle.hit.specs.declared.inner.Spot.{Spot}
use Rattle.page.specs.Page.{among}
use Rattle.record.proofs.Numbers.{by_order}
use Rattle.sheet.proofs.Laws.{sets_append, row_words-length, row_words_offset, room_rows}
use Rattle.sheet.specs.Columns.{room_of}
use Rattle.sheet.specs.Limits.{words_per_row}
use Rattle.sheet.specs.Row.{row_words}
use Rattle.sheet.specs.Sheet.{rows_words}
use Rattle.starts.specs.Inner.{is_cell}
use Rattle.sheet.proofs.Carving.{told_on}
use Rattle.sheet.specs.Hits.{Hit, rows_of}
use Rattle.sheet.specs.Inner.{on, Told, Adds}
use Rattle.sheet.specs.declared.inner.Sheet.{Sheet}

-- ---- the records of cells start one behind the other, none before v
abbrev pub Rising : ℕ → List ℕ → Type 0
Rising v [] = Unit
Rising v (a ∷ bs) = (v ≤ a) × Rising (suc a) bs

rising_low : (v w : ℕ) (l : List ℕ) → v ≤ w → Rising w l → Rising v l
rising_low v w [] h r = tt
rising_low v w (a ∷ bs) h r = (omega (arith, r.0), r.1)

-- THE LAW
pub starts_rise : (d hints : List ℕ) (f pos : ℕ) → Rising pos (starts_of (cells_from f d hints pos))
starts_rise d hints zero pos = rw (cells_none d hints pos) tt
starts_rise d hints (suc f) pos =
    by_order pos (length d)
    (λ lt. rw (cells_on d hints f pos lt) (go (cell_at d hints pos) refl (λ next. starts_rise d hints f next)))
    (λ ge. rw (cells_end d hints (suc f) pos ge) tt)
  where
    go : (l : Looked) → cell_at d hints pos ≡ l → ((next : ℕ) → Rising next (starts_of (cells_from f d hints next)))
        → Rising pos (starts_of (cells_there l ++ cells_from f d hints (next_place pos l)))
    go no_cell e rest = rising_low pos (suc pos) (starts_of (cells_from f d hints (suc pos))) (omega arith) (rest (suc pos))
    go (cell c) e rest =
        let g = cell_from d hints pos c e in
        (omega (arith, g.past), rising_low (suc c.at) c.end (starts_of (cells_from f d hints c.end)) g.some (rest c.end))

-- a place below all others is none of them
below : (v w : ℕ) (l : List ℕ) → v < w → Rising w l → among v l ≡ false
below v w [] h r = refl
below v w (a ∷ bs) h r = simp (ne_eqb v a (λ e. omega (arith, r.0)), below v (suc a) bs (omega (arith, r.0)) r.1)

-- the next row, if a start was passed over
abbrev pub next_row : ℕ → Bool → ℕ
next_row k passed = cond passed (suc k) k

-- ---- the next row of a cell decides, if all before v are passed
module _ (spot : Spot) (o : ℕ) (rows : List ℕ) (cells v : ℕ) where
  offset_same : (a : ℕ) → (v ≡ a → ⊥) → eqb (spot.base + (o + a)) (spot.base + (o + v)) ≡ false
  offset_same a ne = ne_eqb (spot.base + (o + a)) (spot.base + (o + v)) (λ e. ne (omega arith))

  -- THE LAW
  pub next_decides : (k : ℕ) (l : List ℕ) → Standing spot o rows cells k l → Rising v l → is_cell rows k cells (spot.base + (o + v)) ≡ among v l
  unfolding is_cell
  next_decides k [] s r = simp (le-ltb k cells (omega arith))
  next_decides k (a ∷ bs) s r =
      by_cases (ℕ_discrete v a)
      (λ e. simp (lt-ltb k cells s.0, s.1, eq-eqb v a e, eq-eqb (spot.base + (o + a)) (spot.base + (o + v)) (omega arith)))
      (λ ne. simp (lt-ltb k cells s.0, s.1, offset_same a ne, ne_eqb v a ne, below v (suc a) bs (omega (arith, r.0)) r.1))

  -- the rows of the cells that come behind v
  pub next_stands : (k : ℕ) (l : List ℕ) → Standing spot o rows cells k l → Rising v l
      → (left : List ℕ) × Standing spot o rows cells (next_row k (among v l)) left × Rising (suc v) left × ((u : ℕ) → suc v ≤ u → among u l ≡ among u left)
  next_stands k [] s r = ([], s, tt, λ u h. refl)
  next_stands k (a ∷ bs) s r =
      by_cases (ℕ_discrete v a)
      (λ e.
      let z : among v (a ∷ bs) ≡ true = simp (eq-eqb v a e) in
      rw z (bs, s.2, rising_low (suc v) (suc a) bs (omega arith) r.1, λ u h. simp (ne_eqb u a (λ f. omega arith))))
      (λ ne.
      let z : among v (a ∷ bs) ≡ false = simp (ne_eqb v a ne, below v (suc a) bs (omega (arith, r.0)) r.1) in
      rw z (a ∷ bs, s, (omega (arith, r.0), r.1), λ u h. refl))

-- at the start v: the rows from k on are those of the cells among S that come at v or behind
pub record Passing (spot : Spot) (o : ℕ) (S rows : List ℕ) (cells v k : ℕ) : Type 0 where
  pub left : List ℕ
  pub standing : Standing spot o rows cells k left
  pub rising : Rising v left
  pub same : (u : ℕ) → v ≤ u → among u S ≡ among u left

module _ (spot : Spot) (o : ℕ) (S rows : List ℕ) (cells v k : ℕ) (w : Passing spot o S rows cells v k) where
  pub passing_is : is_cell rows k cells (spot.base + (o + v)) ≡ among v S
  passing_is = next_decides spot o rows cells v k w.left w.standing w.rising ∙ sym (w.same v (omega arith))

  pub passing_on : Passing spot o S rows cells (suc v) (next_row k (is_cell rows k cells (spot.base + (o + v))))
  passing_on =
      let n = next_stands spot o rows cells v k w.left w.standing w.rising in
      rw (next_decides spot o rows cells v k w.left w.standing w.rising)
      (record { left = n.0; standing = n.1; rising = n.2; same = λ u h. w.same u (omega arith) ∙ n.3 u h })

-- ---- words that are written elsewhere
get_d_sets_before : (l : List ℕ) (i : ℕ) (vs : List ℕ) (j : ℕ) → j < i → get_or (sets l i vs) j 0 ≡ get_or l j 0
get_d_sets_before l i [] j h = refl
get_d_sets_before l i (v ∷ vs) j h = get_d_sets_before (set l i v) (suc i) vs j (omega arith) ∙ get_or-set_other l i j v 0 (λ e. omega arith)

get_d_sets_first : (l : List ℕ) (i v : ℕ) (vs : List ℕ) → i < length l → get_or (sets l i (v ∷ vs)) i 0 ≡ v
get_d_sets_first l i v vs h = get_d_sets_before (set l i v) (suc i) vs i (omega arith) ∙ get_or-set_same l i v 0 h

standing_kept : (spot : Spot) (o : ℕ) (rows : List ℕ) (cells m : ℕ) (ws : List ℕ) → cells ≤ m → (k : ℕ) (l : List ℕ) → Standing spot o rows cells k l
    → Standing spot o (sets rows (m * words_per_row) ws) cells k l
standing_kept spot o rows cells m ws h k [] s = s
standing_kept spot o rows cells m ws h k (a ∷ bs) s = (
  s.0,
  get_d_sets_before rows (m * words_per_row) ws (k * words_per_row) (omega (arith, s.0)) ∙ s.1,
  standing_kept spot o rows cells m ws h (suc k) bs s.2,
)

-- THE LAW: rows that are added behind those of the cells leave them where they are
pub passing_kept : (spot : Spot) (o : ℕ) (S : List ℕ) (s : Sheet) (cells v k : ℕ) (hs : List Hit) (r : Told) (s' : Sheet) → cells ≤ s.n → Adds hs false s r s'
    → Passing spot o S s.rows.now cells v k → Passing spot o S s'.rows.now cells v k
passing_kept spot o S s cells v k hs r s' h x w =
    record {
      left = w.left;
      standing =
          rw x.carves.puts.rows_are
          (standing_kept spot o s.rows.now cells s.n (rows_words (rows_of (take (s.room - s.n) hs))) h k w.left w.standing);
      rising = w.rising;
      same = w.same;
    }

-- ---- the rows of cells as they are written
hits_count : (spot : Spot) (columns o : ℕ) (cs : List CellRow) → length (cell_hits spot columns o cs) ≡ length cs
hits_count spot columns o [] = refl
hits_count spot columns o (c ∷ cs) = ap suc (hits_count spot columns o cs)

written : (spot : Spot) (columns o cells : ℕ) (cs : List CellRow) (rows : List ℕ) (k : ℕ) → cells ≡ k + length cs → cells * words_per_row ≤ length rows
    → Standing spot o (sets rows (k * words_per_row) (rows_words (rows_of (cell_hits spot columns o cs)))) cells k (starts_of cs)
written spot columns o cells [] rows k e h = omega arith
written spot columns o cells (c ∷ cs) rows k e h =
    let r = (cell_hit spot columns (o + c.at) c.id c.found).row in
    let rest = rows_words (rows_of (cell_hits spot columns o cs)) in
    let one = sets rows (k * words_per_row) (row_words r) in
    let behind : suc k * words_per_row ≡ k * words_per_row + length (row_words r) = omega (arith, row_words-length r) in
    let both : sets one (suc k * words_per_row) rest ≡ sets rows (k * words_per_row) (row_words r ++ rest) = rw behind (sets_append rows (k * words_per_row) (row_words r) rest) in
    let first : get_or one (k * words_per_row) 0 ≡ r.offset =
    ap (λ ws. get_or (sets rows (k * words_per_row) ws) (k * words_per_row) 0) (row_words_offset r) ∙ get_d_sets_first rows (k * words_per_row) r.offset (drop 1 (row_words r)) (omega arith) in (
      omega arith,
      rw both at (get_d_sets_before one (suc k * words_per_row) rest (k * words_per_row) (omega arith) ∙ first),
      subst (λ (x : List ℕ). Standing spot o x cells (suc k) (starts_of cs)) both (written spot columns o cells cs one (suc k) (omega arith) (rw length-sets h)),
    )

-- so many rows have their words
pub rows_fit : (rows cols width m : ℕ) → m ≤ room_of rows cols width → m * words_per_row ≤ rows
rows_fit rows cols width zero h = omega arith
rows_fit rows cols width (suc m) h = omega (arith, room_rows rows cols width m h)

-- THE LAW: where the cells are carved, their rows stand behind those that were there
pub cells_stand : (spot : Spot) (columns o : ℕ) (cs : List CellRow) (s s' : Sheet) → s.room ≤ room_of (length s.rows.now) (length s.cols.now) s.width
    → Adds (cell_hits spot columns o cs) false s (on s'.n) s' → Standing spot o s'.rows.now s'.n s.n (starts_of cs)
cells_stand spot columns o cs s s' most x =
    let t = told_on s.room s.n (length (cell_hits spot columns o cs)) s'.n false x.carves.answer in
    let count = hits_count spot columns o cs in
    let all = take_all (s.room - s.n) (cell_hits spot columns o cs) (omega (arith, t.0)) in
    let fit = rows_fit (length s.rows.now) (length s.cols.now) s.width s'.n (omega (arith, t.0, t.1)) in
    rw (x.carves.puts.rows_are, all) (written spot columns o s'.n cs s.rows.now s.n (omega (arith, t.1)) fit)

-- and none is passed where the starts begin
pub passing_start : (spot : Spot) (o : ℕ) (d hints rows : List ℕ) (cells first : ℕ) → Standing spot o rows cells first (starts_of (cells_of d hints))
    → Passing spot o (starts_of (cells_of d hints)) rows cells 0 first
unfolding cells_of
passing_start spot o d hints rows cells first s = record { left = starts_of (cells_of d hints); standing = s; rising = starts_rise d hints (length d) 0; same = λ u h. refl }
