-- The list without guesses (rule 11.13) is that of each mode without the rows that it rebuilds: of a payload, of a page and of a leaf.
-- Assumes nothing.
use Prim.Native.Nat.{ℕ, ◌+◌, ◌≤◌}
use mathlib.Core.Path.{◌≡◌, refl, ◌∙◌}
use mathlib.Core.Bool.{Bool, true, false, cond}
use mathlib.Core.List.{List, [], ◌∷◌, ◌++◌, map, append-nil, map-append}
use native.Mathlib.Omega.{arith}
use lib.Dec.{ltb}
use lib.ListN.{length}
use Rattle.carving.specs.Calls.{hits_by, leaf_hits, page_spot}
use Rattle.carving.specs.declared.inner.Carving.TheVariants.{Gaps}
use Rattle.cells.proofs.Guesses.{cells_alone}
use Rattle.cells.specs.Cells.{cells_of, starts_of, cell_hits, rebuilt_from, payload_hits}
use Rattle.gap.specs.Gap.{gap_hits, chain, blocks_hits, page_hits}
use Rattle.gaplaws.specs.Parts.{Part, gap_row, cell_row, guess, hit_in, without_guesses, payload_parts, blocks_parts, page_parts, leaf_parts}
use Rattle.hit.specs.declared.inner.Spot.{Spot}
use Rattle.page.specs.Page.{Block, payload_of, start_of, page_of, head_of}
use Rattle.rebuild.specs.declared.rebuilding.Rebuilding.{Rebuilding}
use Rattle.rebuild.specs.declared.rebuilding.Rebuilding.TheVariants.{NoGuesses}
use Rattle.sheet.specs.Hits.{Hit}
use Rattle.starts.specs.Starts.{rebuilt_starts}

-- ---- marks
marked_hits : (mark : Hit → Part) → ((h : Hit) → hit_in (mark h) ≡ h) → (hs : List Hit) → map hit_in (map mark hs) ≡ hs
marked_hits mark is [] = refl
marked_hits mark is (h ∷ hs) = rw (is h, marked_hits mark is hs)

pub without_append : (a b : List Part) → without_guesses (a ++ b) ≡ without_guesses a ++ without_guesses b
without_append [] b = refl
without_append (gap_row h ∷ a) b = rw (without_append a b)
without_append (cell_row h ∷ a) b = rw (without_append a b)
without_append (guess h ∷ a) b = without_append a b

gap_kept : (hs : List Hit) → without_guesses (map gap_row hs) ≡ map gap_row hs
gap_kept [] = refl
gap_kept (h ∷ hs) = rw (gap_kept hs)

cells_kept : (hs : List Hit) → without_guesses (map cell_row hs) ≡ map cell_row hs
cells_kept [] = refl
cells_kept (h ∷ hs) = rw (cells_kept hs)

guesses_gone : (hs : List Hit) → without_guesses (map guess hs) ≡ []
guesses_gone [] = refl
guesses_gone (h ∷ hs) = guesses_gone hs

-- and so the list is no longer
pub fewer : (ps : List Part) → length (map hit_in (without_guesses ps)) ≤ length (map hit_in ps)
fewer [] = omega arith
fewer (gap_row h ∷ ps) = omega (arith, fewer ps)
fewer (cell_row h ∷ ps) = omega (arith, fewer ps)
fewer (guess h ∷ ps) = omega (arith, fewer ps)

module _ (how : Rebuilding) where
  -- ---- a payload
  module _ (spot : Spot) (o : ℕ) (d hints : List ℕ) where
    abbrev cells : List Hit
    cells = cell_hits spot (length hints) o (cells_of d hints)

    abbrev guesses : List Hit
    guesses = rebuilt_from (rebuilt_starts (length d) (length hints)) how spot o (starts_of (cells_of d hints)) d hints 0

    -- THE LAW: without the marks it is the list of the same mode,
    pub payload_parts_lem : map hit_in (payload_parts how spot o d hints) ≡ payload_hits how spot o d hints
    unfolding payload_hits
    payload_parts_lem =
        map-append hit_in (map cell_row cells) (map guess guesses) ∙ rw (marked_hits cell_row (λ h. refl) cells, marked_hits guess (λ h. refl) guesses) refl

    -- THE LAW: and without the guesses that of the mode that makes none
    pub payload_unguessed : map hit_in (without_guesses (payload_parts how spot o d hints)) ≡ payload_hits NoGuesses spot o d hints
    payload_unguessed =
        rw (without_append (map cell_row cells) (map guess guesses), cells_kept cells, guesses_gone guesses, append-nil (map cell_row cells), marked_hits cell_row (λ h. refl) cells, cells_alone spot o d hints)
        refl

  -- ---- a page
  module _ (page : List ℕ) (head : ℕ) (hints : List ℕ) (spot : Spot) where
    blocks_parts_lem : (bs : List Block) → map hit_in (blocks_parts how page hints spot bs) ≡ blocks_hits how page hints spot bs
    blocks_parts_lem [] = refl
    blocks_parts_lem (b ∷ bs) =
        let first = payload_parts how spot (b.at + 4) (payload_of page b) hints in
        rw (map-append hit_in first (blocks_parts how page hints spot bs), payload_parts_lem spot (b.at + 4) (payload_of page b) hints, blocks_parts_lem bs) refl

    blocks_unguessed : (bs : List Block) → map hit_in (without_guesses (blocks_parts how page hints spot bs)) ≡ blocks_hits NoGuesses page hints spot bs
    blocks_unguessed [] = refl
    blocks_unguessed (b ∷ bs) =
        let first = payload_parts how spot (b.at + 4) (payload_of page b) hints in
        let rest = blocks_parts how page hints spot bs in
        rw (without_append first rest, map-append hit_in (without_guesses first) (without_guesses rest), payload_unguessed spot (b.at + 4) (payload_of page b) hints, blocks_unguessed bs) refl

    abbrev gap : List Hit
    gap = gap_hits page head hints spot

    abbrev blocks : List Part
    blocks = blocks_parts how page hints spot (chain page head)

    -- THE LAWS, of a page
    pub page_parts_lem : map hit_in (page_parts how page head hints spot) ≡ page_hits how page head hints spot
    unfolding page_hits
    page_parts_lem = go (ltb (length page) (head + 8))
      where
        go : (b : Bool) → map hit_in (cond b [] (map gap_row gap ++ blocks)) ≡ cond b [] (gap ++ blocks_hits how page hints spot (chain page head))
        go true = refl
        go false = rw (map-append hit_in (map gap_row gap) blocks, marked_hits gap_row (λ h. refl) gap, blocks_parts_lem (chain page head)) refl

    pub page_unguessed : map hit_in (without_guesses (page_parts how page head hints spot)) ≡ page_hits NoGuesses page head hints spot
    unfolding page_hits
    page_unguessed = go (ltb (length page) (head + 8))
      where
        go : (b : Bool) → map hit_in (without_guesses (cond b [] (map gap_row gap ++ blocks))) ≡ cond b [] (gap ++ blocks_hits NoGuesses page hints spot (chain page head))
        go true = refl
        go false =
            rw (without_append (map gap_row gap) blocks, gap_kept gap, map-append hit_in (map gap_row gap) (without_guesses blocks), marked_hits gap_row (λ h. refl) gap, blocks_unguessed (chain page head)) refl

  -- THE LAWS, of a leaf
  module _ (db : List ℕ) (size table : ℕ) (hints : List ℕ) (p : ℕ) where
    pub leaf_parts_lem : map hit_in (leaf_parts how db size table hints p) ≡ leaf_hits (Gaps how) db size table hints p
    unfolding leaf_hits hits_by
    leaf_parts_lem = page_parts_lem (page_of db size p) (head_of p) hints (page_spot (start_of size p) table)

    pub leaf_unguessed : map hit_in (without_guesses (leaf_parts how db size table hints p)) ≡ leaf_hits (Gaps NoGuesses) db size table hints p
    unfolding leaf_hits hits_by
    leaf_unguessed = page_unguessed (page_of db size p) (head_of p) hints (page_spot (start_of size p) table)
