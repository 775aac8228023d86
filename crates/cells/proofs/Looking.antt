-- Cells: what stands at one place of a payload, and at all of them one after the other.
-- Assumes nothing.
use Rattle.std.specs.Prelude.{None, Some, Result, Ok, Err}
use Rattle.std.specs.Result.{result_ok}
use Prim.Native.Nat.{ℕ, zero, suc, ◌+◌, ◌-◌, ◌≤◌, ◌<◌}
use mathlib.Core.Path.{◌≡◌, refl, ◌∙◌}
use mathlib.Core.Bool.{Bool, true, false, cond}
use mathlib.Core.List.{List, [], ◌∷◌, ◌++◌}
use native.Mathlib.Nat.{add-zero}
use native.Mathlib.Numerals.{add-one}
use native.Mathlib.Omega.{arith}
use borrow.Author.Tests.{lt-ltb, le-ltb, le-leb, lt-leb, leb-true, ltb-true}
use lib.Dec.{ltb, leb}
use lib.ListN.{length, take, drop, length-take, length-drop}
use Rattle.attempt.specs.Attempt.{Tried, miss, hit, attempt_at}
use Rattle.attempt.specs.Inner.{found_at, HitIs, Tells}
use Rattle.attempt.specs.Places.{attempt_places}
use Rattle.attempt.specs.declared.inner.Find.{Find}
use Rattle.attempt.specs.declared.inner.Miss.{Miss}
use Rattle.cells.specs.Cells.{CellRow, Looked, no_cell, cell, record_is, id_then, length_then, cell_at, cell_then, cells_from, cells_of, cell_hits}
use Rattle.cells.specs.Inner.{record_of, CellFound, cells_there, next_place}
use Rattle.cells.proofs.Along.{Along, along_start, along_end, along_on, along_full}
use Rattle.hit.proofs.Laws.{ready_part}
use Rattle.hit.specs.Hit.{intra_page, hit_of}
use Rattle.hit.specs.Inner.{Ready}
use Rattle.hit.specs.declared.inner.Origin.{Origin}
use Rattle.hit.specs.declared.inner.Spot.{Spot}
use Rattle.record.proofs.Laws.{varint_lies}
use Rattle.record.specs.Varint.{varint_at}
use Rattle.record.specs.declared.varint.Cursor.{Cursor}
use Rattle.record.specs.Varint.{Varint}
use Rattle.sheet.specs.Confidence.{share}
use Rattle.sheet.proofs.Sheets.{adds_none}
use Rattle.sheet.specs.Hits.{Hit}
use Rattle.sheet.specs.Inner.{Told, on, over, Adds}
use Rattle.sheet.specs.declared.inner.Sheet.{Sheet}

-- ---- what an attempt tells, where its miss is dropped
module _ (s hints : List ℕ) (o : ℕ) (t : Tried) (p : List ℕ) (r : Result Find Miss) where
  pub missed : result_ok r ≡ None → Tells s hints o t p r → t ≡ miss
  missed e tells = go r e tells
    where
      go : (r : Result Find Miss) → result_ok r ≡ None → Tells s hints o t p r → t ≡ miss
      go (Ok x) e h = cc
      go (Err x) e h = h.misses

  pub told_hit : (x : Find) → result_ok r ≡ Some x → Tells s hints o t p r → HitIs s hints o t p x
  told_hit x e tells = go r e tells
    where
      go : (r : Result Find Miss) → result_ok r ≡ Some x → Tells s hints o t p r → HitIs s hints o t p x
      go (Ok y) e h = let z : y ≡ x = cc in rw (← z) h
      go (Err y) e h = cc

-- ---- one place
module _ (d hints : List ℕ) (pos : ℕ) where
  pub cell_short : varint_at d pos ≡ None → cell_at d hints pos ≡ no_cell
  unfolding cell_at
  cell_short e = simp e

  module _ (len : ℕ) (c : Cursor) (e : varint_at d pos ≡ Some (len, c)) where
    pub cell_empty : len ≡ 0 → cell_at d hints pos ≡ no_cell
    unfolding cell_at
    cell_empty z = simp (e, z)

    module _ (some : 0 < len) where
      pub cell_no_id : varint_at d c.at ≡ None → cell_at d hints pos ≡ no_cell
      unfolding cell_at
      cell_no_id e' = simp (e, lt-ltb 0 len some, e')

      module _ (id : ℕ) (c' : Cursor) (e' : varint_at d c.at ≡ Some (id, c')) where
        pub cell_long : length d - c'.at < len → cell_at d hints pos ≡ no_cell
        unfolding cell_at
        cell_long h = simp (e, lt-ltb 0 len some, e', lt-leb len (length d - c'.at) h)

        module _ (fits : len ≤ length d - c'.at) where
          pub cell_is : cell_at d hints pos ≡ record_is c'.at len id (attempt_at (take len (drop c'.at d)) hints 0)
          unfolding cell_at
          cell_is = simp (e, lt-ltb 0 len some, e', le-leb len (length d - c'.at) fits)

          abbrev body : List ℕ
          body = record_of d c'.at (c'.at + len)

          same : take len (drop c'.at d) ≡ body
          same = let z : c'.at + len - c'.at ≡ len = omega arith in rw z

          pub cell_miss : attempt_at body hints 0 ≡ miss → cell_at d hints pos ≡ no_cell
          cell_miss m = cell_is ∙ rw (same, m)

          pub cell_found : (x : Find) → HitIs body hints 0 (attempt_at body hints 0) (attempt_places body 0) x → CellFound d hints pos c'.at (c'.at + len) id x
          cell_found x h =
              let a = varint_lies d pos len c e in
              let b = varint_lies d c.at id c' e' in
              record { is = cell_is ∙ rw (same, h.hits); past = omega (arith, a.past, b.past); on = omega arith; inside = omega (arith, b.inside); found = h }

      -- what is too long with no row id is too long with one
      pub cell_far : length d - c.at < len → cell_at d hints pos ≡ no_cell
      cell_far h = go (varint_at d c.at) refl
        where
          go : (v : Varint) → varint_at d c.at ≡ v → cell_at d hints pos ≡ no_cell
          go (Some (id, c')) e' = cell_long id c' e' (omega (arith, (varint_lies d c.at id c' e').past))
          go None e' = cell_no_id e'

never : {C : Type 0} {c : CellRow} → no_cell ≡ cell c → C
never e = let z : ◌≡◌ {A = ℕ} 0 1 = cc in absurd (omega arith)

-- a cell that was found: its record lies in the payload, behind the place where the cell was looked for, and an attempt on it is a row
pub record CellFrom (d hints : List ℕ) (pos : ℕ) (c : CellRow) : Type 0 where
  pub past : pos < c.at
  pub some : c.at < c.end
  pub inside : c.end ≤ length d
  pub found : attempt_at (record_of d c.at c.end) hints 0 ≡ hit c.found

module _ (d hints : List ℕ) (pos : ℕ) (r : CellRow) where
  -- THE LAW
  pub cell_from : cell_at d hints pos ≡ cell r → CellFrom d hints pos r
  unfolding cell_at
  cell_from e = with_length (varint_at d pos) refl e
    where
      with_record : (start len id : ℕ) → pos < start → 0 < len → start + len ≤ length d → (t : Tried) → attempt_at (take len (drop start d)) hints 0 ≡ t → record_is start len id t ≡ cell r
          → CellFrom d hints pos r
      with_record start len id past some in' miss f e = never e
      with_record start len id past some in' (hit x) f e =
          let z : record { at = start; end = start + len; id = id; found = x } ≡ r = cc in
          let l : start + len - start ≡ len = omega arith in
          rw (← z) (record { past = past; some = omega arith; inside = in'; found = rw l f })

      with_id : (len from : ℕ) → pos < from → 0 < len → (v : Varint) → varint_at d from ≡ v → id_then d hints len v ≡ cell r → CellFrom d hints pos r
      with_id len from past some None f e = never e
      with_id len from past some (Some (id, c)) f e = go (leb len (length d - c.at)) refl e
        where
          go : (b : Bool) → leb len (length d - c.at) ≡ b → cond b (record_is c.at len id (attempt_at (take len (drop c.at d)) hints 0)) no_cell ≡ cell r → CellFrom d hints pos r
          go false q e = never e
          go true q e =
              let l = varint_lies d from id c f in
              with_record c.at len id (omega (arith, l.past)) some (omega (arith, l.inside, leb-true len (length d - c.at) q)) _ refl e

      with_length : (v : Varint) → varint_at d pos ≡ v → length_then d hints v ≡ cell r → CellFrom d hints pos r
      with_length None f e = never e
      with_length (Some (len, c)) f e = go (ltb 0 len) refl e
        where
          go : (b : Bool) → ltb 0 len ≡ b → cond b (id_then d hints len (varint_at d c.at)) no_cell ≡ cell r → CellFrom d hints pos r
          go false q e = never e
          go true q e = with_id len c.at (varint_lies d pos len c f).past (ltb-true 0 len q) _ refl e

-- ---- all places
module _ (d hints : List ℕ) where
  pub next_past : (pos : ℕ) → pos < next_place pos (cell_at d hints pos)
  next_past pos = go (cell_at d hints pos) refl
    where
      go : (l : Looked) → cell_at d hints pos ≡ l → pos < next_place pos l
      go no_cell e = omega arith
      go (cell c) e = let f = cell_from d hints pos c e in omega (arith, f.past, f.some)

  pub cells_none : (pos : ℕ) → cells_from 0 d hints pos ≡ []
  unfolding cells_from
  cells_none pos = refl

  pub cells_end : (f pos : ℕ) → length d ≤ pos → cells_from f d hints pos ≡ []
  unfolding cells_from
  cells_end zero pos h = refl
  cells_end (suc f) pos h = simp (le-ltb pos (length d) h)

  pub cells_on : (f pos : ℕ) → pos < length d
      → cells_from (suc f) d hints pos ≡ cells_there (cell_at d hints pos) ++ cells_from f d hints (next_place pos (cell_at d hints pos))
  unfolding cells_from
  cells_on f pos h = simp (lt-ltb pos (length d) h) (go (cell_at d hints pos))
    where
      go : (l : Looked) → cell_then pos (λ next. cells_from f d hints next) l ≡ cells_there l ++ cells_from f d hints (next_place pos l)
      go no_cell = refl
      go (cell c) = refl

hits_append : (spot : Spot) (columns o : ℕ) (a b : List CellRow) → cell_hits spot columns o (a ++ b) ≡ cell_hits spot columns o a ++ cell_hits spot columns o b
hits_append spot columns o [] b = refl
hits_append spot columns o (c ∷ a) b = rw (hits_append spot columns o a b)

-- the places before `pos` are carved
pub record Looking (d hints : List ℕ) (spot : Spot) (o : ℕ) (s₀ s : Sheet) (pos : ℕ) : Type 0 where
  pub fuel : ℕ
  pub enough : length d ≤ pos + fuel
  pub along : Along s₀ (cell_hits spot (length hints) o (cells_of d hints)) (cell_hits spot (length hints) o (cells_from fuel d hints pos)) s

module _ (d hints : List ℕ) (spot : Spot) (o : ℕ) (s₀ : Sheet) where
  abbrev whole : List Hit
  whole = cell_hits spot (length hints) o (cells_of d hints)

  pub looking_start : s₀.n ≤ s₀.room → Looking d hints spot o s₀ s₀ 0
  unfolding cells_of
  looking_start h = record { fuel = length d; enough = omega arith; along = along_start s₀ whole h }

  module _ (s : Sheet) (pos : ℕ) (w : Looking d hints spot o s₀ s pos) where
    pub looking_end : length d ≤ pos → Adds whole false s₀ (on s.n) s
    looking_end h = along_end s₀ whole s (rw (cells_end d hints w.fuel pos h) at w.along)

    module _ (inside : pos < length d) where
      abbrev there : List Hit
      there = cell_hits spot (length hints) o (cells_there (cell_at d hints pos))

      later : (g : ℕ) × (length d ≤ next_place pos (cell_at d hints pos) + g)
          × Along s₀ whole (there ++ cell_hits spot (length hints) o (cells_from g d hints (next_place pos (cell_at d hints pos)))) s
      later = go w.fuel w.enough w.along
        where
          go : (f : ℕ) → length d ≤ pos + f → Along s₀ whole (cell_hits spot (length hints) o (cells_from f d hints pos)) s
              → (g : ℕ) × (length d ≤ next_place pos (cell_at d hints pos) + g)
              × Along s₀ whole (there ++ cell_hits spot (length hints) o (cells_from g d hints (next_place pos (cell_at d hints pos)))) s
          go zero q a = absurd (omega arith)
          go (suc f) q a = (
            f,
            omega (arith, next_past d hints pos),
            rw (cells_on d hints f pos inside, hits_append spot (length hints) o (cells_there (cell_at d hints pos)) (cells_from f d hints (next_place pos (cell_at d hints pos)))) at a,
          )

      module _ (s' : Sheet) where
        pub looking_on : (next : ℕ) → next ≡ next_place pos (cell_at d hints pos) → Adds there false s (on s'.n) s' → Looking d hints spot o s₀ s' next
        looking_on next e x = rw e (record { fuel = later.0; enough = later.1; along = along_on s₀ whole s there _ later.2 s' x })

        pub looking_full : Adds there false s over s' → Adds whole false s₀ over s'
        looking_full x = along_full s₀ whole s there _ later.2 s' x

-- ---- one place is carved
module _ (d hints : List ℕ) (pos : ℕ) (spot : Spot) (o : ℕ) (s : Sheet) (ready : Ready (o + length d) (length hints) spot s) where
  abbrev Carved : Told → Sheet → Type 0
  Carved r s' = Adds (cell_hits spot (length hints) o (cells_there (cell_at d hints pos))) false s r s'

  pub place_none : cell_at d hints pos ≡ no_cell → Carved (on s.n) s × (pos + 1 ≡ next_place pos (cell_at d hints pos))
  place_none e = rw e (adds_none s ready.space.fits, add-one pos)

  module _ (start end id : ℕ) (x : Find) (f : CellFound d hints pos start end id x) where
    abbrev taken : List ℕ
    taken = record_of d start end

    taken_long : length taken ≡ end - start
    taken_long = simp (length-take, length-drop) (omega (arith, f.inside))

    pub place_ready : Ready (o + start + length taken) (length hints) spot s
    place_ready = ready_part (o + length d) (o + start + length taken) (length hints) spot s (omega (arith, taken_long, f.on, f.inside)) ready

    pub place_one : (origin : Origin) (r : Told) (s' : Sheet) → origin ≡ intra_page (Some id) (share x.matched (length hints))
        → Adds (hit_of spot (o + start + 0) (o + start) origin (found_at taken 0 x) ∷ []) false s r s' → Carved r s'
    place_one origin r s' e c = rw f.is (rw (add-zero (o + start), e) at c)

    pub place_next : end ≡ next_place pos (cell_at d hints pos)
    place_next = rw f.is
