-- `record::record::value_of` meets its contract: of a number's type the body is as long as the table says and lies in the slice.
-- Assumes nothing.
use Rattle.std.proofs.Common.{◌≡◌, ℕ, ◌+◌, ◌*◌, ◌<◌, ◌≤◌, List, length, get_or, ℤ, true, refl, sym, ◌∙◌, ap, arith, lit<}
use Rattle.std.specs.Prelude.{Some}
use lib.Ieee.{binary64, of_bits}
use mir.Syntax.{w64}
use mir.Val.{SFits, to_z, of_z}
use mir.Facts.{to_z-of_z}
use borrow.Author.Tests.{leb-true}
use Rattle.record.specs.Value.{small_lengths, body_length, body_fits, big_endian, twos_complement, value_of}
use Rattle.record.specs.declared.record.Value.TheVariants.{Int}
use Rattle.record.proofs.Values.{small_length_lem, fits_by_place, value_integer}
use Rattle.record.proofs.record.value_of.Goals as goal
use Rattle.record.proofs.record.value_of.Goals.{Start}

-- of the types 1 to 7
module _ (c : Start) (k : ℕ) (is : c.args.kind ≡ k) (some : 0 < k) (number : k < 8) where
  long : c.args.n ≡ get_or small_lengths k 0
  long = small_length_lem _ _ (omega arith) c.requires.kind_value ∙ ap (λ (t : ℕ). get_or small_lengths t 0) is

  inside : c.args.at + get_or small_lengths k 0 ≤ length c.args.bytes.now
  inside =
      let placed = fits_by_place c.args.kind _ _ _ (λ e. omega arith) (λ e. omega arith) (λ e. omega arith) in
      rw long at (leb-true (c.args.at + c.args.n) _ (sym placed ∙ c.requires.body_there))

  -- of the types 1 to 6: a signed word holds the number
  integer : k < 7 → (z : ℤ) → SFits w64 z →
      let len = get_or small_lengths k 0 in
      z ≡ twos_complement (8 * len) (big_endian c.args.bytes.now c.args.at len)
      → Int (to_z w64 (of_z w64 z)) ≡ value_of c.args.kind c.args.bytes.now c.args.at c.args.n
  integer small z fits e =
      ap Int (to_z-of_z fits ∙ e ∙ ap (λ (len : ℕ). twos_complement (8 * len) (big_endian c.args.bytes.now c.args.at len)) (sym long))
      ∙ sym (value_integer _ _ _ _ (omega arith) (omega arith))

pub int_at-requires-clause-n_in_bounds : goal.int_at-requires-clause-n_in_bounds
int_at-requires-clause-n_in_bounds c = inside (goal.at.int_at-requires-clause-n_in_bounds c).Start 1 c.in-1.is (lit< tt) (lit< tt)

pub int_at-requires-in-2-clause-n_in_bounds : goal.int_at-requires-in-2-clause-n_in_bounds
int_at-requires-in-2-clause-n_in_bounds c = inside (goal.at.int_at-requires-in-2-clause-n_in_bounds c).Start 2 c.in-2.is (lit< tt) (lit< tt)

pub int_at-requires-in-3-clause-n_in_bounds : goal.int_at-requires-in-3-clause-n_in_bounds
int_at-requires-in-3-clause-n_in_bounds c = inside (goal.at.int_at-requires-in-3-clause-n_in_bounds c).Start 3 c.in-3.is (lit< tt) (lit< tt)

pub int_at-requires-in-4-clause-n_in_bounds : goal.int_at-requires-in-4-clause-n_in_bounds
int_at-requires-in-4-clause-n_in_bounds c = inside (goal.at.int_at-requires-in-4-clause-n_in_bounds c).Start 4 c.in-4.is (lit< tt) (lit< tt)

pub int_at-requires-in-5-clause-n_in_bounds : goal.int_at-requires-in-5-clause-n_in_bounds
int_at-requires-in-5-clause-n_in_bounds c = inside (goal.at.int_at-requires-in-5-clause-n_in_bounds c).Start 5 c.in-5.is (lit< tt) (lit< tt)

pub long_at-requires : goal.long_at-requires
long_at-requires c = inside (goal.at.long_at-requires c).Start 6 c.in-6.is (lit< tt) (lit< tt)

pub big_endian-requires-clause-n_in_bounds : goal.big_endian-requires-clause-n_in_bounds
big_endian-requires-clause-n_in_bounds c = inside (goal.at.big_endian-requires-clause-n_in_bounds c).Start 7 c.in-7.is (lit< tt) (lit< tt)

pub returns-in-1 : goal.returns-in-1
returns-in-1 c =
    integer (goal.at.returns-in-1 c).Start 1 c.in-1.is (lit< tt) (lit< tt) (lit< tt) _ (record { sfits = c.int_at.type_inv }) c.int_at.ensures

pub returns-in-2 : goal.returns-in-2
returns-in-2 c =
    integer (goal.at.returns-in-2 c).Start 2 c.in-2.is (lit< tt) (lit< tt) (lit< tt) _ (record { sfits = c.int_at-in-2.type_inv }) c.int_at-in-2.ensures

pub returns-in-3 : goal.returns-in-3
returns-in-3 c =
    integer (goal.at.returns-in-3 c).Start 3 c.in-3.is (lit< tt) (lit< tt) (lit< tt) _ (record { sfits = c.int_at-in-3.type_inv }) c.int_at-in-3.ensures

pub returns-in-4 : goal.returns-in-4
returns-in-4 c =
    integer (goal.at.returns-in-4 c).Start 4 c.in-4.is (lit< tt) (lit< tt) (lit< tt) _ (record { sfits = c.int_at-in-4.type_inv }) c.int_at-in-4.ensures

pub returns-in-5 : goal.returns-in-5
returns-in-5 c =
    integer (goal.at.returns-in-5 c).Start 5 c.in-5.is (lit< tt) (lit< tt) (lit< tt) _ (record { sfits = c.int_at-in-5.type_inv }) c.int_at-in-5.ensures

pub returns-in-6 : goal.returns-in-6
returns-in-6 c =
    integer (goal.at.returns-in-6 c).Start 6 c.in-6.is (lit< tt) (lit< tt) (lit< tt) _ (record { sfits = c.long_at.type_inv }) c.long_at.ensures

pub returns-in-7 : goal.returns-in-7
unfolding value_of
returns-in-7 c =
    let same = c.f64_from_bits_with_nan.ensures ∙ ap (of_bits binary64) c.big_endian.ensures.value in
    simp (same, c.in-7.is, long (goal.at.returns-in-7 c).Start 7 c.in-7.is (lit< tt) (lit< tt))
