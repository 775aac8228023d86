-- Hits that are added one after the other: what was added, with what is still to come, is the whole.
-- Assumes nothing.
use Rattle.std.specs.Prelude.{ℕ, ◌≤◌, ◌≡◌, refl, false, List, [], ◌++◌}
use mathlib.Core.Path.{sym, ◌∙◌}
use mathlib.Core.List.{append-nil, append_assoc}
use Rattle.hit.proofs.Laws.{ready_then}
use Rattle.hit.specs.Inner.{Ready}
use Rattle.hit.specs.declared.inner.Spot.{Spot}
use Rattle.sheet.proofs.Sheets.{adds_none, adds_more, adds_stop}
use Rattle.sheet.specs.Hits.{Hit}
use Rattle.sheet.specs.Inner.{on, over, Adds}
use Rattle.sheet.specs.declared.inner.Sheet.{Sheet}

-- of `whole`, which is added to the sheet s₀, `rest` is still to come, and the sheet is s
pub record Along (s₀ : Sheet) (whole rest : List Hit) (s : Sheet) : Type 0 where
  pub done : List Hit
  pub added : Adds done false s₀ (on s.n) s
  pub sum : done ++ rest ≡ whole

module _ (s₀ : Sheet) (whole : List Hit) where
  pub along_start : s₀.n ≤ s₀.room → Along s₀ whole whole s₀
  along_start h = record { done = []; added = adds_none s₀ h; sum = refl }

  module _ (s : Sheet) where
    pub along_end : Along s₀ whole [] s → Adds whole false s₀ (on s.n) s
    along_end w = rw (sym (append-nil w.done) ∙ w.sum) at w.added

    -- what is ready where the work begins is ready now
    pub along_ready : (rest : List Hit) (len columns : ℕ) (spot : Spot) → Along s₀ whole rest s → Ready len columns spot s₀ → Ready len columns spot s
    along_ready rest len columns spot w r = ready_then len columns spot w.done s₀ s r w.added

    module _ (some rest : List Hit) (w : Along s₀ whole (some ++ rest) s) (s' : Sheet) where
      pub along_on : Adds some false s (on s'.n) s' → Along s₀ whole rest s'
      along_on x =
          record {
            done = w.done ++ some;
            added = adds_more w.done some s₀ s s' false (on s'.n) w.added x;
            sum = append_assoc w.done some rest ∙ w.sum;
          }

      pub along_full : Adds some false s over s' → Adds whole false s₀ over s'
      along_full x =
          let c = adds_more w.done some s₀ s s' false over w.added x in
          rw (append_assoc w.done some rest ∙ w.sum) at (adds_stop (w.done ++ some) rest s₀ s' false false c)
