-- What calls leave with and without guesses (rule 11.13), of what they are asked: where the one that brings them returns 0, the other does, too, and
-- each leaves all its rows.
-- Assumes nothing.
use Rattle.std.specs.Prelude.{Err, Ok}
use Prim.Native.Nat.{ℕ, ◌≤◌}
use mathlib.Core.Path.{◌≡◌, refl, sym}
use mathlib.Core.List.{List, ◌∷◌, map}
use native.Mathlib.Omega.{arith}
use borrow.Author.Tests.{ltb-false, le-leb, le-ltb, lt-ltb}
use lib.Dec.{ltb}
use lib.ListN.{length}
use lib.Seq.{take_all}
use Rattle.carving.specs.Calls.{hits_by, slice_spot, slice_asked, slice_filling, numbered_checks, numbered_asked, numbered_filling}
use Rattle.carving.specs.declared.inner.Carving.{Carving}
use Rattle.carving.specs.declared.inner.Carving.TheVariants.{Gaps, Payload}
use Rattle.gaplaws.proofs.Guesses.{fewer, payload_parts_lem, payload_unguessed, page_parts_lem, page_unguessed, leaf_parts_lem, leaf_unguessed}
use Rattle.gaplaws.specs.Parts.{Part, hit_in, without_guesses, payload_parts, page_parts, leaf_parts, all_rows}
use Rattle.rebuild.specs.Header.{most_by}
use Rattle.rebuild.specs.declared.rebuilding.Rebuilding.{Rebuilding}
use Rattle.rebuild.specs.declared.rebuilding.Rebuilding.TheVariants.{NoGuesses, OneByte, Exact}
use Rattle.record.proofs.Numbers.{by_order}
use Rattle.sheet.proofs.Filling.{rows_filled}
use Rattle.sheet.proofs.Laws.{number_range, none_holds}
use Rattle.sheet.specs.Filled.{number_after}
use Rattle.sheet.specs.Hits.{Hit, RowFilling, row_room, rows_number, FillsRows}
use Rattle.sheet.specs.Limits.{most_columns}
use Rattle.sheet.specs.Refusal.{Check, first_held}
use Rattle.sheet.specs.Slice.{slice_checks}
use Rattle.sheet.specs.Refusal.{Checked}
use Rattle.sheet.specs.declared.refusal.Refusal.TheVariants.{ColumnCount}

-- ---- any call
module _ (a : RowFilling) where
  -- one that returns 0 has passed its checks, and has room,
  passed : rows_number a ≡ 0 → (a.checked ≡ (Ok tt)) × (length a.hits ≤ row_room a)
  unfolding rows_number
  passed e = go a.checked refl e
    where
      go : (c : Checked) → a.checked ≡ c → number_after c (length a.hits) (row_room a) ≡ 0 → (a.checked ≡ (Ok tt)) × (length a.hits ≤ row_room a)
      go (Err r) h e = absurd (omega (arith, (number_range r).0))
      go (Ok tt) h e =
          by_order (row_room a) (length a.hits)
          (λ more. let z = rw (lt-ltb (row_room a) (length a.hits) more) at e in absurd (omega arith)) (λ fit. (h, fit))

  -- and leaves all its rows
  pub left : (hits : List Hit) → a.hits ≡ hits → a.checked ≡ (Ok tt) → length a.hits ≤ row_room a → FillsRows a (all_rows a.width a.rows a.cols hits)
  left hits is c fit =
      let all = take_all (row_room a) a.hits fit in
      rows_filled a (all_rows a.width a.rows a.cols hits) c
      (rw (← is) (record { answer = simp (le-leb (length a.hits) (row_room a) fit); rows_are = rw all; cols_are = rw all }))

-- THE LAW: of two that are lent the same lists, of which the one passes where the other does and has its rows without the guesses
abbrev pub Both : RowFilling → RowFilling → List Part → Type 0
Both a b parts =
    let all = all_rows a.width a.rows a.cols in
    FillsRows a (all (map hit_in parts)) × FillsRows b (all (map hit_in (without_guesses parts)))

abbrev but : RowFilling → Checked → List Hit → RowFilling
but a checked hits = record { checked = checked; hits = hits; width = a.width; rows = a.rows; cols = a.cols }

both : (a : RowFilling) (parts : List Part) → a.hits ≡ map hit_in parts → (c : Checked) → (a.checked ≡ (Ok tt) → c ≡ (Ok tt))
    → (plain : List Hit) → plain ≡ map hit_in (without_guesses parts) → rows_number a ≡ 0 → Both a (but a c plain) parts
both a parts is c passes plain less e =
    let p = passed a e in
    let fits : length plain ≤ row_room a = rw less (omega (arith, fewer parts, rw is at p.1)) in
    (left a (map hit_in parts) is p.0 p.1, left (but a c plain) (map hit_in (without_guesses parts)) less (passes p.0) fits)

-- ---- a table that is not too wide for a mode is not too wide without guesses
most_few : (how : Rebuilding) → most_by how ≤ most_columns
most_few NoGuesses = omega arith
most_few OneByte = omega arith
most_few Exact = omega arith

abbrev pub too_many : ℕ → ℕ → Check
too_many most columns = record { refusal = ColumnCount; holds = ltb most columns }

pub passes : (how : Rebuilding) (columns : ℕ) (cs : List Check) → first_held (too_many (most_by how) columns ∷ cs) ≡ (Ok tt) → first_held (too_many most_columns columns ∷ cs) ≡ (Ok tt)
passes how columns cs e =
    let narrow = (none_holds (too_many (most_by how) columns ∷ cs) e).0 in
    let rest : first_held cs ≡ (Ok tt) = rw narrow at e in
    rw (le-ltb most_columns columns (omega (arith, most_few how, ltb-false (most_by how) columns narrow))) rest

module _ (how : Rebuilding) where
  -- ---- a slice: a page, or the payload of one block
  module _ (page : List ℕ) (head base : ℕ) (hints rows cols : List ℕ) where
    abbrev sliced : Carving → RowFilling
    sliced by = slice_filling (slice_asked by page head base hints rows cols)

    abbrev checks : List Check
    checks = slice_checks (length page) hints base

    pub page_both : rows_number (sliced (Gaps how)) ≡ 0 → Both (sliced (Gaps how)) (sliced (Gaps NoGuesses)) (page_parts how page head hints (slice_spot base))
    unfolding hits_by
    page_both =
        let spot = slice_spot base in
        both (sliced (Gaps how)) (page_parts how page head hints spot) (sym (page_parts_lem how page head hints spot)) _ (passes how (length hints) checks) _
        (sym (page_unguessed how page head hints spot))

    pub payload_both : rows_number (sliced (Payload how)) ≡ 0 → Both (sliced (Payload how)) (sliced (Payload NoGuesses)) (payload_parts how (slice_spot base) 0 page hints)
    unfolding hits_by
    payload_both =
        let spot = slice_spot base in
        both (sliced (Payload how)) (payload_parts how spot 0 page hints) (sym (payload_parts_lem how spot 0 page hints)) _ (passes how (length hints) checks) _
        (sym (payload_unguessed how spot 0 page hints))

  -- ---- a page by its number
  module _ (db : List ℕ) (size p : ℕ) (hints rows cols : List ℕ) where
    abbrev numbered : Rebuilding → RowFilling
    numbered by = numbered_filling (numbered_asked (Gaps by) db size p hints rows cols)

    pub numbered_both : rows_number (numbered how) ≡ 0 → Both (numbered how) (numbered NoGuesses) (leaf_parts how db size 0 hints p)
    numbered_both =
        both (numbered how) (leaf_parts how db size 0 hints p) (sym (leaf_parts_lem how db size 0 hints p)) _
        (passes how (length hints) (numbered_checks (length db) size p hints)) _ (sym (leaf_unguessed how db size 0 hints p))
