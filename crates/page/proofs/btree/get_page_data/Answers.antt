-- `page::btree::get_page_data` meets its contract: each way out rewrites the checks by the tests on the way.
-- Assumes nothing.
use Prim.Native.Nat.{ℕ, ◌+◌, ◌-◌, ◌*◌, ◌≤◌, ◌<◌}
use Rattle.std.specs.Prelude.{Result, Ok, Err}
use mathlib.Core.Path.{◌≡◌, refl, sym, ◌∙◌}
use mathlib.Core.Bool.{true, false}
use native.Mathlib.Omega.{arith}
use borrow.Author.Tests.{lt-ltb, le-ltb}
use lib.ListN.{length}
use Rattle.page.specs.Page.{size_fits, has_page, start_of, head_of, page_answer, page_refusal, paged_number}
use Rattle.page.specs.declared.btree.Page.{Page}
use Rattle.page.proofs.Laws.{size_range, page_there, page_zero, page_behind, page_inside}
use Rattle.sheet.specs.Limits.{largest_region}
use Rattle.sheet.specs.declared.refusal.Refusal.{Refusal}
use Rattle.sheet.specs.declared.refusal.Refusal.TheVariants.{TooLarge, PageSize, NoSuchPage}
use Rattle.page.proofs.btree.get_page_data.Goals as goal
use Rattle.page.proofs.btree.get_page_data.Goals.{Else-not-size_fits, Else-page-db, then-page-eq0-via-then-page-eq0, then-page-eq0-via-else-page-eq0+then-page-db}

-- an answer is the one that is asked for, and so is its number
abbrev Answers : ℕ → ℕ → ℕ → Result Page Refusal → Type 0
Answers len size p r = record { value : r ≡ page_answer len size p; number : paged_number r ≡ page_refusal len size p }

module _ (len size p : ℕ) where
  too_large_lem : largest_region < len → Answers len size p (Err TooLarge)
  unfolding page_answer page_refusal
  too_large_lem h = simp (lt-ltb largest_region len h) record { value = refl; number = refl }

  module _ (small : len ≤ largest_region) where
    bad_size : size_fits size ≡ false → Answers len size p (Err PageSize)
    unfolding page_answer page_refusal
    bad_size e = simp (le-ltb largest_region len small, e) record { value = refl; number = refl }

    module _ (fits : size_fits size ≡ true) where
      no_page : has_page len size p ≡ false → Answers len size p (Err NoSuchPage)
      unfolding page_answer page_refusal
      no_page e = simp (le-ltb largest_region len small, fits, e) record { value = refl; number = refl }

      there : has_page len size p ≡ true → (head : ℕ) → head ≡ head_of p →
          Answers len size p (Ok (record { start = start_of size p; len = size; head = head }))
      unfolding page_answer page_refusal
      there e head h = rw h (simp (le-ltb largest_region len small, fits, e) record { value = refl; number = refl })

pub returns-then-db-gt-LARGEST_REGION : goal.returns-then-db-gt-LARGEST_REGION
returns-then-db-gt-LARGEST_REGION c = too_large_lem _ _ _ c.if-db-gt-LARGEST_REGION.true

pub returns-then-not-size_fits : goal.returns-then-not-size_fits
returns-then-not-size_fits c = bad_size _ _ _ c.if-db-gt-LARGEST_REGION.false (sym c.size_fits.ensures ∙ c.if-not-size_fits.true)

-- the size is one of the format's
fits : (c : Else-not-size_fits) → size_fits c.args.size ≡ true
fits c = sym c.size_fits.ensures ∙ c.if-not-size_fits.false

pub nonzero_div-db : goal.nonzero_div-db
nonzero_div-db c = omega (arith, (size_range _ (fits (goal.at.nonzero_div-db c).Else-not-size_fits)).0)

pub returns-then-page-eq0 : goal.returns-then-page-eq0
returns-then-page-eq0 c =
    no_page _ _ _ c.if-db-gt-LARGEST_REGION.false (fits (goal.at.returns-then-page-eq0 c).Else-not-size_fits)
    (elim c.then-page-eq0.branch [
      | then-page-eq0-via-then-page-eq0 w ↦ page_zero _ _ _ w.if-page-eq0.true
      | then-page-eq0-via-else-page-eq0+then-page-db w ↦ page_behind _ _ _ w.if-page-db.true
    ])

-- and the page is there
some : (c : Else-page-db) → 1 ≤ c.args.page
some c = omega arith

inside : (c : Else-page-db) → size_fits c.args.size ≡ true → start_of c.args.size c.args.page + c.args.size ≤ length c.args.db.now
inside c f = page_inside _ _ _ (omega (arith, (size_range _ f).0)) (some c) c.if-page-db.false

pub returns : goal.returns
returns c =
    let f = fits (goal.at.returns c).Else-not-size_fits in
    there (length c.args.db.now) c.args.size c.args.page c.if-db-gt-LARGEST_REGION.false f
    (page_there _ _ _ (some (goal.at.returns c).Else-page-db) c.if-page-db.false) c.head_of.result c.head_of.ensures.value
