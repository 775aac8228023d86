-- What other crates rest on: they cite these laws, and those of `Leaves` and `Tables`, and unfold no definition of this one.
-- Assumes nothing.
use Rattle.std.specs.Prelude.{Result, Err, Ok}
use Prim.Native.Nat.{ℕ, ◌≤◌, ◌<◌, min}
use mathlib.Core.Path.{◌≡◌, refl, sym, ◌∙◌}
use mathlib.Core.Bool.{Bool, true, false, cond}
use mathlib.Core.List.{List}
use native.Mathlib.Nat.{min-eq_left, min-eq_right}
use native.Mathlib.Omega.{arith}
use borrow.Author.Tests.{not-false, eqb-true, ltb-true, ltb-false}
use lib.Dec.{ltb}
use lib.ListN.{length, get_or}
use Rattle.page.proofs.Laws.{size_range}
use Rattle.sheet.proofs.Laws.{none_holds, count_fits_lem, neither}
use Rattle.sheet.specs.Limits.{most_columns, most_tables, largest_region}
use Rattle.sheet.specs.Refusal.{first_held, refusal_number, after, after_or0}
use Rattle.sheet.specs.Refusal.{Checked}
use Rattle.sheet.specs.declared.refusal.Refusal.{Refusal}
use Rattle.walk.specs.Carve.{sum_of, widest, table_checks}
use Rattle.walk.specs.Collect.{Walking, walking_answer, walked_number, walked_written, walking_number, walking_written}
use Rattle.walk.specs.Inner.{Inside, Keeps, TablesFit}
use Rattle.walk.specs.declared.inner.Stack.{Stack}
use Rattle.walk.specs.declared.walk.Walked.{Walked}
use Rattle.walk.specs.declared.walk.Walked.TheVariants.{Done, Full, Short}
use Rattle.walk.proofs.Summing.{count_at, widest_least}

-- ---- the numbers of an answer
module _ (room things : ℕ) where
  abbrev answered : Checked → Bool → Bool → Bool → Result Walked Refusal
  answered c few more overflow = after Err c (Ok (cond few (Short 0) (cond more (Full room) (cond overflow (Short things) (Done things)))))

  number_by : (c : Checked) (few more overflow : Bool)
      → walked_number (answered c few more overflow) ≡ after refusal_number c (cond few 8 (cond more 9 (cond overflow 8 0)))
  number_by (Err r) few more overflow = refl
  number_by (Ok tt) true more overflow = refl
  number_by (Ok tt) false true overflow = refl
  number_by (Ok tt) false false true = refl
  number_by (Ok tt) false false false = refl

  written_by : (c : Checked) (few more overflow : Bool) → ltb room things ≡ more
      → walked_written (answered c few more overflow) ≡ after_or0 c (cond few 0 (min room things))
  written_by (Err r) few more overflow e = refl
  written_by (Ok tt) true more overflow e = refl
  written_by (Ok tt) false true overflow e = let h = ltb-true room things e in sym (min-eq_left (omega arith))
  written_by (Ok tt) false false true e = sym (min-eq_right (ltb-false room things e))
  written_by (Ok tt) false false false e = sym (min-eq_right (ltb-false room things e))

-- THE LAW: the paper's number of an answer, and how many things it says are written, are what the checks, the flags and the room say
pub numbers_are : (w : Walking) → (walked_number (walking_answer w) ≡ walking_number w) × (walked_written (walking_answer w) ≡ walking_written w)
numbers_are w =
    let few = ltb w.flags w.pages in
    let more = ltb w.room w.things in
    (number_by w.room w.things w.checked few more w.overflow, written_by w.room w.things w.checked few more w.overflow refl)

-- ---- tables that have passed the checks
pub tables_fit : (len size : ℕ) (roots counts hints : List ℕ) → first_held (table_checks len size roots counts hints) ≡ (Ok tt) → TablesFit len size roots counts hints
tables_fit len size roots counts hints e =
    let n = none_holds (table_checks len size roots counts hints) e in
    let a = neither _ _ n.1.0 in
    let b = neither _ _ a.1 in
    let large = neither (ltb largest_region len) (ltb most_tables (length roots)) n.1.1.0 in
    let range = size_range size (not-false _ n.1.1.1.0) in
    record {
      fit = not-false _ n.0;
      alike = eqb-true (length roots) (length counts) (not-false _ a.0);
      sums = eqb-true (sum_of counts) (length hints) (not-false _ b.0);
      known = not-false _ b.1;
      small = ltb-false largest_region len large.0;
      few = ltb-false most_tables (length roots) large.1;
      low = range.0;
      high = range.1;
    }

-- a table of them
pub table_fits : (len size : ℕ) (roots counts hints : List ℕ) (t : ℕ) → TablesFit len size roots counts hints → t < length roots
    → (1 ≤ get_or counts t 0) × (get_or counts t 0 ≤ most_columns) × (get_or counts t 0 ≤ widest counts)
table_fits len size roots counts hints t f h =
    let below : t < length counts = omega (arith, f.alike) in
    let k = count_fits_lem (get_or counts t 0) (count_at counts t f.fit below) in
    (k.0, k.1, widest_least counts t below)

-- ---- steps one after the other leave the stack over the same cells
pub keeps_then : (a b c : Stack) → Keeps a b → Keeps b c → Keeps a c
keeps_then a b c x y = record { pages_kept = y.pages_kept ∙ x.pages_kept; depth = y.depth ∙ x.depth; inside = y.inside }

pub keeps_same : (s : Stack) → Inside s → Keeps s s
keeps_same s h = record { pages_kept = refl; depth = refl; inside = h }
