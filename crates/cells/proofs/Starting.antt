-- Starts one after the other: what was carved at those before v, with what the others give, is the whole.
-- Assumes nothing.
use Rattle.std.specs.Prelude.{Option, Some, None, eqb}
use Rattle.std.specs.Option.{option_eq}
use Prim.Native.Nat.{ℕ, zero, suc, ◌+◌, ◌-◌, ◌≤◌, ◌<◌}
use mathlib.Core.Path.{◌≡◌, refl, sym, ◌∙◌}
use mathlib.Core.Bool.{Bool, true, false}
use mathlib.Core.List.{List, ◌++◌}
use native.Mathlib.Nat.{add-zero, add_assoc}
use native.Mathlib.Numerals.{add-one}
use native.Mathlib.Omega.{arith}
use lib.ListN.{length}
use Rattle.attempt.specs.Attempt.{miss}
use Rattle.cells.specs.Cells.{cells_of, cell_hits, starts_of, start_hits, rebuilt_from, payload_hits}
use Rattle.cells.specs.Inner.{Standing}
use Rattle.cells.proofs.Along.{Along, along_start, along_end, along_on, along_full}
use Rattle.cells.proofs.Guesses.{cells_alone}
use Rattle.cells.proofs.Skipping.{next_row, Passing, passing_start, passing_is, passing_on, passing_kept}
use Rattle.hit.specs.declared.inner.Spot.{Spot}
use Rattle.page.specs.Page.{among}
use Rattle.rebuild.specs.Header.{rebuilt}
use Rattle.rebuild.specs.declared.rebuilding.Rebuilding.{Rebuilding}
use Rattle.rebuild.specs.declared.rebuilding.Rebuilding.TheVariants.{NoGuesses}
use Rattle.starts.proofs.Laws.{next_is}
use Rattle.starts.specs.Inner.{next_cell, starts_at, is_cell, NoneFrom, StartIs}
use Rattle.starts.specs.Starts.{rebuilt_starts}
use Rattle.sheet.proofs.Carving.{told_on}
use Rattle.sheet.proofs.Sheets.{adds_none, adds_more, adds_stop}
use Rattle.sheet.specs.Hits.{Hit}
use Rattle.sheet.specs.Inner.{Told, on, over, Adds}
use Rattle.sheet.specs.declared.inner.Sheet.{Sheet}

rebuilt_step : (j : ℕ) (how : Rebuilding) (spot : Spot) (o : ℕ) (S d hints : List ℕ) (v : ℕ)
    → rebuilt_from (suc j) how spot o S d hints v ≡ start_hits spot (length hints) o v (among v S) (rebuilt how d hints v) ++ rebuilt_from j how spot o S d hints (suc v)
unfolding rebuilt_from
rebuilt_step j how spot o S d hints v = refl

-- ---- whether the next cell's record starts there, as the code asks
asked : (next : Option ℕ) (offset : ℕ) → starts_at next offset ≡ option_eq eqb next (Some offset)
asked (Some a) offset = refl
asked None offset = refl

pub passed_is : (rows : List ℕ) (k cells base o v : ℕ) (next : Option ℕ) (answer b : Bool) → next ≡ next_cell rows k cells
    → answer ≡ option_eq eqb next (Some (base + o + v)) → answer ≡ b → is_cell rows k cells (base + (o + v)) ≡ b
passed_is rows k cells base o v next answer b n e f =
    let there = base + o + v in
    let z : is_cell rows k cells there ≡ b = sym (next_is rows k cells there) ∙ (rw (← n) (asked next there) ∙ (sym e ∙ f)) in
    rw (add_assoc base o v) at z

-- of so many starts those before v are carved; the row k is the next of a cell
pub record Starting (how : Rebuilding) (d hints : List ℕ) (spot : Spot) (o starts : ℕ) (s₀ s : Sheet) (v k : ℕ) : Type 0 where
  pub left : ℕ
  pub sum : v + left ≡ starts
  pub behind : s₀.n ≤ s.n
  pub along :
      Along s₀ (rebuilt_from starts how spot o (starts_of (cells_of d hints)) d hints 0) (rebuilt_from left how spot o (starts_of (cells_of d hints)) d hints v) s
  pub passing : Passing spot o (starts_of (cells_of d hints)) s.rows.now s₀.n v k

module _ (how : Rebuilding) (d hints : List ℕ) (spot : Spot) (o starts : ℕ) (s₀ : Sheet) where
  abbrev S : List ℕ
  S = starts_of (cells_of d hints)

  abbrev whole : List Hit
  whole = rebuilt_from starts how spot o S d hints 0

  pub starting_start : (first : ℕ) → s₀.n ≤ s₀.room → Standing spot o s₀.rows.now s₀.n first S → Starting how d hints spot o starts s₀ s₀ 0 first
  starting_start first h standing =
      record {
        left = starts;
        sum = omega arith;
        behind = omega arith;
        along = along_start s₀ whole h;
        passing = passing_start spot o d hints s₀.rows.now s₀.n first standing;
      }

  module _ (s : Sheet) (v k : ℕ) (w : Starting how d hints spot o starts s₀ s v k) where
    pub starting_end : starts ≤ v → Adds whole false s₀ (on s.n) s
    unfolding rebuilt_from
    starting_end h = let z : w.left ≡ 0 = omega (arith, w.sum) in along_end s₀ whole s (rw z at w.along)

    module _ (more : v < starts) where
      abbrev passed : Bool
      passed = is_cell s.rows.now k s₀.n (spot.base + (o + v))

      abbrev there : Bool → List Hit
      there b = start_hits spot (length hints) o v b (rebuilt how d hints v)

      later : (b : Bool) → passed ≡ b → (j : ℕ) × (suc v + j ≡ starts) × Along s₀ whole (there b ++ rebuilt_from j how spot o S d hints (suc v)) s
      later b e = go w.left w.sum w.along
        where
          go : (j : ℕ) → v + j ≡ starts → Along s₀ whole (rebuilt_from j how spot o S d hints v) s
              → (j : ℕ) × (suc v + j ≡ starts) × Along s₀ whole (there b ++ rebuilt_from j how spot o S d hints (suc v)) s
          go zero q a = absurd (omega arith)
          go (suc j) q a = (j, omega arith, rw (← e, passing_is spot o S s.rows.now s₀.n v k w.passing) (rw (rebuilt_step j how spot o S d hints v) at a))

      module _ (s' : Sheet) (b : Bool) (e : passed ≡ b) where
        starting_on : Adds (there b) false s (on s'.n) s' → Starting how d hints spot o starts s₀ s' (v + 1) (next_row k b)
        starting_on x =
            let t = told_on s.room s.n (length (there b)) s'.n false x.carves.answer in
            let l = later b e in
            let p = rw e at (passing_on spot o S s.rows.now s₀.n v k w.passing) in
            rw (add-one v)
            (record {
              left = l.0;
              sum = l.1;
              behind = omega (arith, w.behind, t.1);
              along = along_on s₀ whole s (there b) _ l.2 s' x;
              passing = passing_kept spot o S s s₀.n (suc v) _ (there b) (on s'.n) s' w.behind x p;
            })

        starting_over : Adds (there b) false s over s' → Adds whole false s₀ over s'
        starting_over x = let l = later b e in along_full s₀ whole s (there b) _ l.2 s' x

      -- a start of a cell's record is passed over, and the next row is that of the next cell
      pub starting_cell : passed ≡ true → s.n ≤ s.room → Starting how d hints spot o starts s₀ s (v + 1) (k + 1)
      starting_cell e fits = rw (add-one k) (starting_on s true e (adds_none s fits))

      -- at another start a row is rebuilt, or none is
      pub starting_row : passed ≡ false → (s' : Sheet) → Adds (there false) false s (on s'.n) s' → Starting how d hints spot o starts s₀ s' (v + 1) k
      starting_row e s' x = starting_on s' false e x

      pub starting_full : passed ≡ false → (s' : Sheet) → Adds (there false) false s over s' → Adds whole false s₀ over s'
      starting_full e s' x = starting_over s' false e x

  -- starts that are passed over give nothing
  module _ (s : Sheet) (k : ℕ) (fits : s.n ≤ s.room) where
    one_passed : (v : ℕ) → v < starts → is_cell s.rows.now k s₀.n (spot.base + (o + v)) ≡ false → rebuilt how d hints v ≡ miss
        → Starting how d hints spot o starts s₀ s v k → Starting how d hints spot o starts s₀ s (v + 1) k
    one_passed v lt apart none w = starting_row s v k w lt apart s (rw none (adds_none s fits))

    all_passed : (j v : ℕ) → v + j ≤ starts → ((u : ℕ) → v ≤ u → u < v + j → is_cell s.rows.now k s₀.n (spot.base + o + u) ≡ false) → NoneFrom how d hints v (v + j)
        → Starting how d hints spot o starts s₀ s v k → Starting how d hints spot o starts s₀ s (v + j) k
    all_passed zero v le apart none w = rw (add-zero v) w
    all_passed (suc j) v le apart none w =
        let e : v + suc j ≡ v + 1 + j = omega arith in
        rw e
        (all_passed j (v + 1) (omega arith) (λ u a b. apart u (omega arith) (omega arith)) (λ u a b. none u (omega arith) (omega arith))
        (one_passed v (omega arith) (rw (add_assoc spot.base o v) at (apart v (omega arith) (omega arith))) (none v (omega arith) (omega arith)) w))

    pub starting_passed : (v r : ℕ) → StartIs how d hints (next_cell s.rows.now k s₀.n) (spot.base + o) v starts r
        → Starting how d hints spot o starts s₀ s v k → Starting how d hints spot o starts s₀ s r k
    starting_passed v r x w =
        let e : v + (r - v) ≡ r = omega (arith, x.on) in
        let apart : (u : ℕ) → v ≤ u → u < r → is_cell s.rows.now k s₀.n (spot.base + o + u) ≡ false =
        λ u a b. sym (next_is s.rows.now k s₀.n (spot.base + o + u)) ∙ x.apart u a b in
        rw e at (all_passed (r - v) v (omega (arith, x.near)) (λ u a b. apart u a (omega arith)) (λ u a b. x.none u a (omega arith)) w)

-- ---- cells first, then what is rebuilt
module _ (how : Rebuilding) (d hints : List ℕ) (spot : Spot) (o : ℕ) (s s' : Sheet) where
  pub payload_full : Adds (cell_hits spot (length hints) o (cells_of d hints)) false s over s' → Adds (payload_hits how spot o d hints) false s over s'
  unfolding payload_hits
  payload_full x = adds_stop (cell_hits spot (length hints) o (cells_of d hints)) _ s s' false false x

  pub payload_cells : (r : Told) → how ≡ NoGuesses → Adds (cell_hits spot (length hints) o (cells_of d hints)) false s r s'
      → Adds (payload_hits how spot o d hints) false s r s'
  payload_cells r e x = rw (e, cells_alone spot o d hints) x

  pub payload_both : (r : Told) (s'' : Sheet) → Adds (cell_hits spot (length hints) o (cells_of d hints)) false s (on s'.n) s'
      → Adds (rebuilt_from (rebuilt_starts (length d) (length hints)) how spot o (starts_of (cells_of d hints)) d hints 0) false s' r s''
      → Adds (payload_hits how spot o d hints) false s r s''
  unfolding payload_hits
  payload_both r s'' x y = adds_more _ _ s s' s'' false r x y
