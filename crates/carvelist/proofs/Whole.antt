-- The totals that the program says are those of one scan of the whole region with room for every row: it goes on from part to part, and
-- resuming adds up (rule 4.16).
-- Assumes nothing.
use Rattle.std.specs.Prelude.{Ok, Err}
use Prim.Native.Nat.{ℕ, zero, suc, ◌+◌, ◌≤◌, ◌<◌}
use mathlib.Core.Path.{◌≡◌, refl, ap, ◌∙◌}
use mathlib.Core.List.{List}
use native.Mathlib.Omega.{arith}
use contract.Lifetimes.{Lfts}
use denote.Triple.Clauses.{AtExit}
use borrow.Fn.Kinds.{Dens, res_t, ended_of}
use lib.ListN.{length}
use Rattle.listing.proofs.Laws.{part_asked, part_small, full_is, done_is_not, refused_is_not, parts_all, parts_end, parts_full}
use Rattle.listing.specs.Input.{largest_input}
use Rattle.listing.specs.Part.{Answered, row_space, col_space, part_answer, parts_from, parts_of, rows_sum, read_sum, totals_of}
use Rattle.scan.specs.Scan.{full}
use Rattle.scan.specs.Sheet.{Asked, asked_sheet, asked_count}
use Rattle.scan.specs.declared.schema_sig.Scanned.{Scanned}
use Rattle.scanlaws.proofs.Asking.{sheets_join, counts_add, settled_same, enough_room}
use Rattle.scanlaws.specs.Joined.{with_room, AnsweredAlike}
use Rattle.sheet.specs.Columns.{room_of}
use Rattle.sheet.specs.Limits.{most_columns}
use Rattle.sheet.specs.declared.filled.Filled.{Filled}
use Rattle.sheet.specs.declared.filled.Filled.TheVariants.{Done, Full}
use Rattle.carvelist.proofs.say_parts.Kinds as kinds
use Rattle.carvelist.proofs.say_parts.Reads as say-parts

module _ (s hints : List ℕ) (h : length s ≤ largest_input) (g : length hints ≤ most_columns) where
  abbrev room : ℕ
  room = room_of row_space col_space (length hints)

  -- the scan from a place on, with room for every row
  abbrev whole : ℕ → Asked
  whole at = record { region = s; hints = hints; base = 0; start = at; room = length s }

  -- with room for a part and then for every row it is the same
  more : (at : ℕ) → AnsweredAlike (with_room (whole at) (room + length s)) (whole at)
  more at = enough_room (whole at) (room + length s) (omega arith)

  -- the parts from a place on come to it
  abbrev Sums : ℕ → ℕ → Type 0
  Sums f at = (rows_sum (parts_from f s hints at) ≡ (asked_sheet (whole at)).written) × (read_sum (parts_from f s hints at) ≡ asked_count (whole at))

  last_sums : (f at : ℕ) (a : Answered) → part_answer s hints at ≡ a → ((n p r : ℕ) → a ≡ Ok (full n p r) → ⊥) → Sums (suc f) at
  last_sums f at a e none =
      let asks = rw e at (part_asked s hints at) in
      let same = settled_same (whole at) room (length s) (asks.settled none) in
      rw (parts_end f s hints at a e none)
      (omega (arith, asks.written, ap (λ x. x.written) same.0, ap (λ x. x.written) (more at).0), omega (arith, asks.count, same.1, (more at).1))

  sums : (f at : ℕ) → at ≤ length s → length s < at + f → Sums f at
  sums zero at i l = absurd (omega arith)
  sums (suc f) at i l = go (part_answer s hints at) refl (λ p i' l'. sums f p i' l')
    where
      -- one that found no room is followed by the rest
      goes_on : (n p r : ℕ) → part_answer s hints at ≡ Ok (full n p r) → ((p : ℕ) → p ≤ length s → length s < p + f → Sums f p) → Sums (suc f) at
      goes_on n p r e rest =
          let asks = rw e at (part_asked s hints at) in
          let past = (part_small s hints at h g).past n p r e in
          let then = rest p (omega (arith, past.1)) (omega (arith, past.0)) in
          let sheets = rw (← asks.place) at (ap (λ x. x.written) (sheets_join (whole at) room (length s))) in
          let counts = rw (← asks.place) at (counts_add (whole at) room (length s)) in
          rw (parts_full f s hints at n p r e)
          (omega (arith, asks.written, then.0, sheets, ap (λ x. x.written) (more at).0), omega (arith, asks.count, then.1, counts, (more at).1))

      by_rows : (x : Scanned) (rows : Filled) → x.rows ≡ rows → part_answer s hints at ≡ Ok x → ((p : ℕ) → p ≤ length s → length s < p + f → Sums f p) → Sums (suc f) at
      by_rows x (Full n) d e rest = goes_on n x.place x.read (e ∙ full_is x n d) rest
      by_rows x (Done n) d e rest = last_sums f at (Ok x) e (done_is_not x n d)

      go : (a : Answered) → part_answer s hints at ≡ a → ((p : ℕ) → p ≤ length s → length s < p + f → Sums f p) → Sums (suc f) at
      go (Ok x) e rest = by_rows x x.rows refl e rest
      go (Err r) e rest = last_sums f at (Err r) e (refused_is_not r)

  -- THE LAW
  pub totals_whole : totals_of (parts_of s hints) ≡ record { rows = (asked_sheet (whole 0)).written; read = asked_count (whole 0) }
  totals_whole = let all = sums (suc (length s)) 0 (omega arith) (omega arith) in rw (parts_all s hints, all.0, all.1)

-- THE LAW, of the function
pub says_whole : (k : Lfts 2) (a : Dens k kinds.ps) (x : (res_t kinds.r k).Denot) (s : AtExit (ended_of 2 kinds.ps kinds.r) k) → say-parts.Pre k a → say-parts.Post k a x s →
    let region = a.1.0.now in
    let scan : Asked = record { region = region; hints = a.1.1.0.now; base = 0; start = 0; room = length region } in
    x.total ≡ record { rows = (asked_sheet scan).written; read = asked_count scan }
says_whole k a x s pre p = p ∙ totals_whole a.1.0.now a.1.1.0.now pre.0 pre.1
