-- Lists that are filled or looked through cell by cell.
-- Assumes nothing.
use Rattle.std.proofs.Common.{◌≡◌, ℕ, zero, suc, true, false, ◌+◌, ◌<◌, ◌≤◌, List, length, get_or, take, refl, ◌∙◌, add-one, arith, take-suc}
use Rattle.std.specs.Prelude.{min}
use Rattle.cases.specs.Lent.{cells_by, FilledBy, fresh_in, touched_in, changed_below, fold_step, fold_below}
use Rattle.cases.specs.declared.lists.Cells.{Cells}

-- ---- what is said of all cells goes on by one
pub changed_start : (of : Cells) (list : List ℕ) → 0 ≡ changed_below of list 0
unfolding changed_below
changed_start of list = refl

pub changed_step : (of : Cells) (list : List ℕ) (i : ℕ) → changed_below of list (i + 1) ≡ changed_below of list i + touched_in of i (get_or list i 0)
unfolding changed_below
changed_step of list i = rw add-one

pub fold_start : (list : List ℕ) → 0 ≡ fold_below list 0
unfolding fold_below
fold_start list = refl

pub fold_on : (list : List ℕ) (i : ℕ) → fold_below list (i + 1) ≡ fold_step (fold_below list i) (get_or list i 0)
unfolding fold_below
fold_on list i = rw add-one

pub changed_hit : (of : Cells) (list : List ℕ) (i : ℕ) → fresh_in of i (get_or list i 0) ≡ false → changed_below of list i + 1 ≡ changed_below of list (i + 1)
changed_hit of list i h = simp (changed_step of list i, h)

pub changed_miss : (of : Cells) (list : List ℕ) (i : ℕ) → fresh_in of i (get_or list i 0) ≡ true → changed_below of list i ≡ changed_below of list (i + 1)
changed_miss of list i h = simp (changed_step of list i, h) (omega arith)

-- ---- cells that are what f gives for their places are the first values of f
module _ (f : ℕ → ℕ) (list : List ℕ) where
  first_cells : (n : ℕ) → n ≤ length list → ((i : ℕ) → i < n → get_or list i 0 ≡ f i) → take n list ≡ cells_by f n
  unfolding cells_by
  first_cells zero h each = refl
  first_cells (suc n) h each =
      take-suc list n 0 (omega (arith, h)) ∙ rw (first_cells n (omega (arith, h)) (λ i lt. each i (omega (arith, lt))), each n (omega arith))

  pub filled_by : (asked n : ℕ) → n ≡ min asked (length list) → ((i : ℕ) → i < n → get_or list i 0 ≡ f i) → FilledBy f asked list n
  filled_by asked n all each = (all, first_cells n (omega (arith, all)) each)
