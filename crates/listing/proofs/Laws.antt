-- What a program that lists rests on: an input that was taken has its sizes; a part is small; and the parts, one after the other, come
-- to the whole.
-- Assumes nothing.
use Rattle.std.specs.Prelude.{Ok, Err}
use Prim.Native.Nat.{ℕ, zero, suc, ◌+◌, ◌-◌, ◌*◌, ◌≤◌, ◌<◌}
use mathlib.Core.Path.{◌≡◌, refl, ap, ◌∙◌}
use mathlib.Core.List.{List, [], ◌∷◌}
use native.Mathlib.Omega.{arith}
use borrow.Author.Tests.{ltb-false, not-false}
use lib.ListN.{length, length-take, length-drop}
use Rattle.attempt.specs.Places.{most_places}
pub use Rattle.listing.proofs.Parts.{part_asked}
use Rattle.listing.proofs.Parts.{part_bounded}
use Rattle.listing.proofs.Texts.{room_holds}
use Rattle.listing.specs.Input.{largest_input, count_bytes, count_of, hints_of, region_of, input_checks, Taken}
use Rattle.listing.specs.Part.{part_rows, row_space, col_space, Answered, part_answer, then_at, then_from, parts_from, parts_of, rows_sum, read_sum}
use Rattle.scan.specs.Scan.{written_of, read_of, full}
use Rattle.scan.specs.declared.schema_sig.Scanned.{Scanned}
use Rattle.sheet.proofs.Laws.{count_fits_lem, none_holds, room_some}
use Rattle.sheet.specs.Limits.{most_columns, count_fits}
use Rattle.sheet.specs.declared.filled.Filled.{Filled}
use Rattle.sheet.specs.declared.filled.Filled.TheVariants.{Done, Full}
use Rattle.sheet.specs.declared.refusal.Refusal.{Refusal}
use Rattle.sheet.specs.Refusal.{first_held}

-- ---- the input
-- THE LAW: what passed the checks has all its hints, and few enough
pub taken : (s : List ℕ) → first_held (input_checks s) ≡ (Ok tt) → Taken s
taken s e =
    let n = none_holds (input_checks s) e in
    let c = count_fits_lem (count_of s) (not-false (count_fits (count_of s)) n.1.1.0) in
    let m = ltb-false (length s - count_bytes) (count_of s) n.1.1.1.0 in
    record { small = ltb-false largest_input (length s) n.0; whole = omega (arith, c.0); few = c.1 }

pub taken_sizes : (s : List ℕ) → Taken s → (length (region_of s) ≤ largest_input) × (length (hints_of s) ≤ most_columns)
taken_sizes s t = (simp length-drop (omega (arith, t.small)), simp length-take (omega (arith, t.few)))

-- ---- a part

-- the most header bytes that a part reads
abbrev pub most_read : ℕ
most_read = most_places * largest_input

-- of a part of a region and hints that the program takes: few rows, few bytes read, and a place further on where it found no room
pub record Small (len start : ℕ) (a : Answered) : Type 0 where
  pub rows : written_of a ≤ part_rows
  pub read : read_of a ≤ most_read
  pub past : (n place r : ℕ) → a ≡ Ok (full n place r) → (start < place) × (place < len)

pub part_small : (s hints : List ℕ) (start : ℕ) → length s ≤ largest_input → length hints ≤ most_columns → Small (length s) start (part_answer s hints start)
part_small s hints start h g =
    let b = part_bounded s hints start in
    let some = room_some row_space col_space (length hints) (omega arith) (omega arith) in
    record {
      rows = omega (arith, (room_holds (length hints) (written_of (part_answer s hints start)) b.rows_fit).1);
      read = omega (arith, b.read_few);
      past = λ n place r e. b.past n place r e some;
    }

-- ---- the parts

-- from the region's first byte on
pub parts_all : (s hints : List ℕ) → parts_of s hints ≡ parts_from (suc (length s)) s hints 0
unfolding parts_of
parts_all s hints = refl

-- an answer says that a row found no room just where its rows fill the lists
pub full_is : (x : Scanned) (n : ℕ) → x.rows ≡ Full n → ◌≡◌ {A = Answered} (Ok x) (Ok (full n x.place x.read))
full_is x n e = ap (λ (f : Filled). Ok (record { rows = f; place = x.place; read = x.read })) e

pub done_is_not : (x : Scanned) (m : ℕ) → x.rows ≡ Done m → (n p r : ℕ) → ◌≡◌ {A = Answered} (Ok x) (Ok (full n p r)) → ⊥
done_is_not x m d n p r e =
    let same : x ≡ full n p r = cc in
    let rows = ap (λ (y : Scanned). y.rows) same in
    cc

pub refused_is_not : (x : Refusal) (n p r : ℕ) → ◌≡◌ {A = Answered} (Err x) (Ok (full n p r)) → ⊥
refused_is_not x n p r e = cc

-- none follows any other
no_more : (rest : ℕ → List Answered) (a : Answered) → ((n p r : ℕ) → a ≡ Ok (full n p r) → ⊥) → then_from a rest ≡ []
no_more rest (Err r) none = refl
no_more rest (Ok x) none = go x.rows refl
  where
    go : (rows : Filled) → x.rows ≡ rows → then_at x.rows x.place rest ≡ []
    go (Done n) e = rw e
    go (Full n) e = absurd (none n x.place x.read (full_is x n e))

pub parts_end : (f : ℕ) (s hints : List ℕ) (at : ℕ) (a : Answered) → part_answer s hints at ≡ a → ((n p r : ℕ) → a ≡ Ok (full n p r) → ⊥) → parts_from (suc f) s hints at ≡ a ∷ []
unfolding parts_from
parts_end f s hints at a e none = rw e (ap (λ ps. a ∷ ps) (no_more (λ place. parts_from f s hints place) a none))

pub parts_full : (f : ℕ) (s hints : List ℕ) (at n p r : ℕ) → part_answer s hints at ≡ Ok (full n p r) → parts_from (suc f) s hints at ≡ Ok (full n p r) ∷ parts_from f s hints p
unfolding parts_from
parts_full f s hints at n p r e = rw e

-- with fuel for what is left
pub On : (s hints : List ℕ) (at count read : ℕ) → Type 0
On s hints at count read =
    (f : ℕ) × (length s < at + f)
    × (count + rows_sum (parts_from f s hints at) ≡ rows_sum (parts_of s hints))
    × (read + read_sum (parts_from f s hints at) ≡ read_sum (parts_of s hints))

pub on_start : (s hints : List ℕ) → On s hints 0 0 0
unfolding On parts_of
on_start s hints = (suc (length s), omega arith, omega arith, omega arith)

module _ (s hints : List ℕ) (at count read : ℕ) (a : Answered) (inside : at ≤ length s) (e : part_answer s hints at ≡ a) where
  pub on_full : (n p r : ℕ) → a ≡ Ok (full n p r) → at < p → On s hints at count read → On s hints p (count + written_of a) (read + read_of a)
  unfolding On
  on_full n p r d lt (zero, q, g, h) = absurd (omega arith)
  on_full n p r d lt (suc f, q, g, h) =
      let z = parts_full f s hints at n p r (e ∙ d) in
      (f, omega arith, rw d (omega (arith, rw z at g)), rw d (omega (arith, rw z at h)))

  pub on_end : ((n p r : ℕ) → a ≡ Ok (full n p r) → ⊥) → On s hints at count read
      → (count + written_of a ≡ rows_sum (parts_of s hints)) × (read + read_of a ≡ read_sum (parts_of s hints))
  unfolding On
  on_end none (zero, q, g, h) = absurd (omega arith)
  on_end none (suc f, q, g, h) =
      let z = parts_end f s hints at a e none in
      (omega (arith, rw z at g), omega (arith, rw z at h))
