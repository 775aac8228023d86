-- The first rows that a call on a page writes are those of the gap, whatever comes behind them.
-- Assumes nothing.
use Rattle.std.specs.Prelude.{Err, Ok}
use Prim.Native.Nat.{ℕ, zero, suc, ◌+◌, ◌*◌, ◌<◌}
use mathlib.Core.Path.{◌≡◌, refl, sym, ap, ◌∙◌}
use mathlib.Core.Bool.{Bool, true, false, cond}
use mathlib.Core.List.{List, [], ◌∷◌, ◌++◌, append_assoc}
use native.Mathlib.Nat.{zero-mul, suc-mul}
use native.Mathlib.Omega.{arith}
use borrow.Author.Tests.{ltb-true}
use lib.Dec.{ltb}
use lib.ListN.{length, take, drop, length-append, length-replicate}
use lib.Seq.{take-append_seam, get_or-append-add}
use Rattle.cells.specs.Values.{in_slice}
use Rattle.gap.proofs.Gaps.{gap_none, gap_past}
use Rattle.gap.proofs.ReadBack.{gap_reads}
use Rattle.gap.specs.Gap.{gap_from, gap_to, gap_hits, chain, blocks_hits, page_hits}
use Rattle.gap.specs.Values.{gap_values}
use Rattle.gaplaws.specs.GapSheet.{sheet_of_hits, gap_sheet, front_of}
use Rattle.hit.specs.declared.inner.Spot.{Spot}
use Rattle.rebuild.specs.declared.rebuilding.Rebuilding.{Rebuilding}
use Rattle.record.proofs.Numbers.{by_order}
use Rattle.record.proofs.Shifts.{PartOf}
use Rattle.record.specs.declared.record.Value.{Value}
use Rattle.scanlaws.specs.Listed.{zeros}
use Rattle.sheet.proofs.Carving.{rows_append, groups_append, rows_count, group_words-length}
use Rattle.sheet.proofs.Laws.{rows_words-length}
use Rattle.sheet.proofs.ReadBack.{AllFit, fit_taken}
use Rattle.sheet.specs.Hits.{Hit, rows_of, group_words, groups_words, RowFilling, row_room, rows_left, entries_left}
use Rattle.sheet.specs.Limits.{words_per_row, words_per_entry}
use Rattle.sheet.specs.Refusal.{after_or_kept}
use Rattle.sheet.specs.Sheet.{overlay, rows_words}
use Rattle.sheet.specs.Refusal.{Checked}

-- ---- the rows of a page: those of its gap, then others
module _ (how : Rebuilding) (page : List ℕ) (head : ℕ) (hints : List ℕ) (spot : Spot) where
  short_none : length page < head + 8 → gap_hits page head hints spot ≡ []
  short_none h =
      let from = gap_from page head in
      let to = gap_to page head in
      by_order from to (λ lt. gap_past page head hints spot from to refl refl lt (omega arith)) (λ ge. gap_none page head hints spot from to refl refl ge)

  abbrev pub behind : List Hit
  behind = cond (ltb (length page) (head + 8)) [] (blocks_hits how page hints spot (chain page head))

  pub gap_first : page_hits how page head hints spot ≡ gap_hits page head hints spot ++ behind
  unfolding page_hits
  gap_first = go (ltb (length page) (head + 8)) refl
    where
      rest : List Hit
      rest = blocks_hits how page hints spot (chain page head)

      go : (b : Bool) → ltb (length page) (head + 8) ≡ b → cond b [] (gap_hits page head hints spot ++ rest) ≡ gap_hits page head hints spot ++ cond b [] rest
      go true e = rw (short_none (ltb-true (length page) (head + 8) e)) refl
      go false e = refl

-- ---- how many words the entries of rows have
fit_words : (s : List ℕ) (width : ℕ) (hs : List Hit) (vss : List (List Value)) → AllFit s width hs vss → length (groups_words width hs) ≡ length hs * (words_per_entry * width)
fit_words s width [] [] f = sym (zero-mul (words_per_entry * width))
fit_words s width [] (vs ∷ vss) f = absurd f
fit_words s width (h ∷ hs) [] f = absurd f
fit_words s width (h ∷ hs) (vs ∷ vss) f =
    omega (arith, length-append (group_words width h) (groups_words width hs), group_words-length width h f.0.narrow, fit_words s width hs vss f.1, suc-mul (length hs) (words_per_entry * width))

-- a page in a slice of which nothing else is known
part_behind : (by : ℕ) (page : List ℕ) → PartOf by page (zeros by ++ page)
part_behind by page =
    let n = length-replicate {A = ℕ} by 0 in
    record { ends = omega (arith, length-append (zeros by) page); same = λ i lt. rw n at (get_or-append-add (zeros by) page i 0) }

pub gap_wide : (page : List ℕ) (head : ℕ) (hints : List ℕ) (spot : Spot) (n : ℕ) → let gap = take n (gap_hits page head hints spot) in
    length (groups_words (length hints) gap) ≡ length gap * (words_per_entry * length hints)
gap_wide page head hints spot n =
    let slice = zeros spot.start ++ page in
    let values = in_slice (spot.start + gap_from page head) (gap_values page head hints) in
    fit_words slice (length hints) (take n (gap_hits page head hints spot)) (take n values)
    (fit_taken slice n (length hints) (gap_hits page head hints spot) values (gap_reads slice spot page hints (part_behind spot.start page) head))

-- ---- what a call leaves
taken : (n : ℕ) (a b : List Hit) → (more : List Hit) × (take n (a ++ b) ≡ take n a ++ more)
taken zero a b = ([], refl)
taken (suc n) [] b = (take (suc n) b, refl)
taken (suc n) (h ∷ a) b = let t = taken n a b in (t.0, ap (◌∷◌ h) t.1)

front : (n : ℕ) (first more old : List ℕ) → length first ≡ n → take n (overlay (first ++ more) old) ≡ first
front n first more old e =
    rw (append_assoc first more (drop (length (first ++ more)) old), ← e) (take-append_seam first (more ++ drop (length (first ++ more)) old))

-- THE LAW: what stands at the front of its lists are the gap's rows, as many as there is room for
pub front_left : (a : RowFilling) (gap rest : List Hit) → a.hits ≡ gap ++ rest
    → ((n : ℕ) → length (groups_words a.width (take n gap)) ≡ length (take n gap) * (words_per_entry * a.width))
    → {rows cols : List ℕ} → rows ≡ rows_left a → cols ≡ entries_left a → front_of a.width (gap_sheet a gap).written rows cols ≡ gap_sheet a gap
unfolding rows_left entries_left
front_left a gap rest is wide r e = rw (r, e, is) (go a.checked)
  where
    room : ℕ
    room = row_room a

    go : (c : Checked) → let t = after_or_kept c (take room gap) [] in
        front_of a.width (length t) (after_or_kept c (overlay (rows_words (rows_of (take room (gap ++ rest)))) a.rows) a.rows)
        (after_or_kept c (overlay (groups_words a.width (take room (gap ++ rest))) a.cols) a.cols)
        ≡ sheet_of_hits a.width t
    go (Ok tt) =
        let t = take room gap in
        let split = taken room gap rest in
        let words = rows_words-length (rows_of t) ∙ ap (λ (k : ℕ). k * words_per_row) (rows_count t) in
        rw (
          split.1,
          rows_append t split.0,
          groups_append a.width t split.0,
          front (length t * words_per_row) (rows_words (rows_of t)) (rows_words (rows_of split.0)) a.rows words,
          front (length t * (words_per_entry * a.width)) (groups_words a.width t) (groups_words a.width split.0) a.cols (wide room),
        )
        refl
    go (Err r) = rw (zero-mul (words_per_entry * a.width)) refl
