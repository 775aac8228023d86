-- Hits added one after the other, whatever finds them: those so far, with those still to come, are all of them.
-- Assumes nothing.
use Prim.Native.Nat.{ℕ, ◌-◌, ◌*◌, ◌≤◌}
use mathlib.Core.Path.{◌≡◌, refl, sym, ap, ◌∙◌}
use mathlib.Core.Bool.{false}
use mathlib.Core.List.{List, [], ◌∷◌, ◌++◌, append-nil, append_assoc}
use native.Mathlib.Omega.{arith}
use lib.ListN.{length, take}
use lib.Seq.{length-sets}
use Rattle.modes.specs.Inner.{Ready}
use Rattle.sheet.proofs.Carving.{told_on}
use Rattle.sheet.proofs.Sheets.{adds_none, adds_more, adds_stop}
use Rattle.sheet.specs.Hits.{Hit, rows_of, groups_words}
use Rattle.sheet.specs.Inner.{on, over, Adds}
use Rattle.sheet.specs.Limits.{words_per_row, words_per_entry}
use Rattle.sheet.specs.Sheet.{rows_words}
use Rattle.sheet.specs.declared.inner.Sheet.{Sheet}

-- THE LAW: where rows were added, more may be
pub ready_then : (len base : ℕ) (hs : List Hit) (s s' : Sheet) → Ready len base s → Adds hs false s (on s'.n) s' → Ready len base s'
ready_then len base hs s s' r x =
    let t = told_on s.room s.n (length hs) s'.n false x.carves.answer in
    let p = x.carves.puts in
    let rows : length s'.rows.now ≡ length s.rows.now = ap (λ (l : List ℕ). length l) p.rows_are ∙ length-sets s.rows.now (s.n * words_per_row) (rows_words (rows_of (take (s.room - s.n) hs))) in
    let cols : length s'.cols.now ≡ length s.cols.now = ap (λ (l : List ℕ). length l) p.cols_are ∙ length-sets s.cols.now (s.n * (words_per_entry * s.width)) (groups_words s.width (take (s.room - s.n) hs)) in
    record {
      small = r.small;
      near = r.near;
      some = rw x.width r.some;
      few = rw x.width r.few;
      room_most = rw (x.room, x.width, rows, cols) r.room_most;
      fits = omega (arith, t.0, t.1, x.room);
    }

-- of the hits `whole`, those but `rest` were added to the first sheet
pub record Carving (whole rest : List Hit) (s₀ s : Sheet) : Type 0 where
  pub done : List Hit
  pub added : Adds done false s₀ (on s.n) s
  pub hits : done ++ rest ≡ whole

pub carving_start : (whole : List Hit) (s : Sheet) → s.n ≤ s.room → Carving whole whole s s
carving_start whole s h = record { done = []; added = adds_none s h; hits = refl }

module _ (whole rest : List Hit) (s₀ s : Sheet) (w : Carving whole rest s₀ s) where
  pub carving_as : (other : List Hit) → rest ≡ other → Carving whole other s₀ s
  carving_as other e = rw e at w

  pub carving_done : rest ≡ [] → Adds whole false s₀ (on s.n) s
  carving_done e = rw (sym (append-nil w.done) ∙ rw e at w.hits) at w.added

  module _ (h : Hit) (later : List Hit) (next : rest ≡ h ∷ later) (s' : Sheet) where
    hits_are : (w.done ++ (h ∷ [])) ++ later ≡ whole
    hits_are = append_assoc w.done (h ∷ []) later ∙ rw next at w.hits

    pub carving_over : Adds (h ∷ []) false s over s' → Adds whole false s₀ over s'
    carving_over x = rw hits_are at (adds_stop (w.done ++ (h ∷ [])) later s₀ s' false false (adds_more w.done (h ∷ []) s₀ s s' false over w.added x))

    pub carving_one : Adds (h ∷ []) false s (on s'.n) s' → Carving whole later s₀ s'
    carving_one x = record { done = w.done ++ (h ∷ []); added = adds_more w.done (h ∷ []) s₀ s s' false (on s'.n) w.added x; hits = hits_are }
