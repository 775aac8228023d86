-- Without guesses (rule 11.13) a payload has the rows of its cells, and no other.
-- Assumes nothing.
use Prim.Native.Nat.{ℕ, zero, suc}
use mathlib.Core.Path.{◌≡◌, refl, ap, ◌∙◌}
use mathlib.Core.Bool.{Bool, true, false}
use mathlib.Core.List.{List, [], ◌++◌, append-nil}
use lib.ListN.{length}
use Rattle.attempt.specs.Attempt.{miss}
use Rattle.cells.specs.Cells.{cells_of, starts_of, cell_hits, start_hits, rebuilt_from, payload_hits}
use Rattle.hit.specs.declared.inner.Spot.{Spot}
use Rattle.page.specs.Page.{among}
use Rattle.rebuild.proofs.Laws.{no_guess}
use Rattle.rebuild.specs.declared.rebuilding.Rebuilding.TheVariants.{NoGuesses}
use Rattle.starts.specs.Starts.{rebuilt_starts}

module _ (spot : Spot) (o : ℕ) (d hints : List ℕ) where
  -- a miss gives no row, whether its start is passed over or not
  missed_none : (v : ℕ) (passed : Bool) → start_hits spot (length hints) o v passed miss ≡ []
  missed_none v true = refl
  missed_none v false = refl

  none_rebuilt : (cells : List ℕ) (k v : ℕ) → rebuilt_from k NoGuesses spot o cells d hints v ≡ []
  unfolding rebuilt_from
  none_rebuilt cells zero v = refl
  none_rebuilt cells (suc k) v = rw (no_guess d hints v, missed_none v (among v cells)) (none_rebuilt cells k (suc v))

  -- THE LAW
  pub cells_alone : payload_hits NoGuesses spot o d hints ≡ cell_hits spot (length hints) o (cells_of d hints)
  unfolding payload_hits
  cells_alone =
      let cells = cell_hits spot (length hints) o (cells_of d hints) in
      ap (λ rest. cells ++ rest) (none_rebuilt (starts_of (cells_of d hints)) (rebuilt_starts (length d) (length hints)) 0) ∙ append-nil cells
