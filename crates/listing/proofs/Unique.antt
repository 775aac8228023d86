-- A contract fixes what a call leaves: any two outcomes that it allows for the same arguments are equal. `Post` is the function's own postcondition.
-- Assumes nothing.
use Prim.Native.Nat.{ℕ}
use Rattle.std.specs.Prelude.{Result, Ok, Err}
use mathlib.Core.Path.{◌≡◌, sym, ap, ◌∙◌}
use mathlib.Core.List.{List}
use lib.ListN.{length}
use Rattle.listing.specs.Part.{found_of, len_of, PartOutcome, part_outcome, ListsPart}
use Rattle.listing.specs.declared.part.Part.{Part}
use Rattle.record.proofs.Unique.{Fixes, FixesSeen}
use Rattle.scan.specs.Scan.{ScanAsked}
use Rattle.sheet.specs.declared.refusal.Refusal.{Refusal}
use Rattle.listing.proofs.input.count_of.Reads as count_of
use Rattle.listing.proofs.input.judge.Reads as judge
use Rattle.listing.proofs.part.col_space.Reads as col-space
use Rattle.listing.proofs.part.list_part.Reads as list-part
use Rattle.listing.proofs.part.row_space.Reads as row-space
use Rattle.listing.proofs.part.text_space.Reads as text-space
use Rattle.listing.proofs.text.put_heading.Reads as put-heading
use Rattle.listing.proofs.text.put_refusal.Reads as put-refusal
use Rattle.listing.proofs.text.put_totals.Reads as put-totals

pub judge_fixed : Fixes judge.Post
judge_fixed k a x y s t p q = p ∙ sym q

pub count_of_fixed : Fixes count_of.Post
count_of_fixed k a x y s t p q = p ∙ sym q

-- the length of a text, and the buffer at exit
pub put_heading_fixed : Fixes put-heading.Post
put_heading_fixed k a x y s t p q = p.0.ends ∙ sym q.0.ends

pub put_heading_text : FixesSeen put-heading.Post (λ k r s. s.0.now)
put_heading_text k a x y s t p q = p.0.written ∙ sym q.0.written

pub put_totals_fixed : Fixes put-totals.Post
put_totals_fixed k a x y s t p q = p.0.ends ∙ sym q.0.ends

pub put_totals_text : FixesSeen put-totals.Post (λ k r s. s.0.now)
put_totals_text k a x y s t p q = p.0.written ∙ sym q.0.written

pub put_refusal_fixed : Fixes put-refusal.Post
put_refusal_fixed k a x y s t p q = p.0.ends ∙ sym q.0.ends

pub put_refusal_text : FixesSeen put-refusal.Post (λ k r s. s.0.now)
put_refusal_text k a x y s t p q = p.0.written ∙ sym q.0.written

-- of the arrays to lend, the length
pub row_space-length : FixesSeen row-space.Post (λ k r s. length r)
row_space-length k a x y s t p q = sym p ∙ q

pub col_space-length : FixesSeen col-space.Post (λ k r s. length r)
col_space-length k a x y s t p q = sym p ∙ q

pub text_space-length : FixesSeen text-space.Post (λ k r s. length r)
text_space-length k a x y s t p q = sym p ∙ q

-- the part itself, and its rows, columns and text at exit
answer_same : (x y : Result Part Refusal) → found_of x ≡ found_of y → len_of x ≡ len_of y → x ≡ y
answer_same (Ok p) (Ok q) f l = let e : p.found ≡ q.found = cc in ap (λ (r : Part). Ok r) (both p q e l)
  where
    both : (p q : Part) → p.found ≡ q.found → p.len ≡ q.len → p ≡ q
    both p q e l = rw (e, l)
answer_same (Ok p) (Err r) f l = cc
answer_same (Err r) (Ok p) f l = cc
answer_same (Err r) (Err t) f l = let e : r ≡ t = cc in rw e

part_same : (a : ScanAsked) (old : List ℕ) (x y : PartOutcome) → ListsPart a old x → ListsPart a old y → x ≡ y
part_same a old x y p q =
    same (answer_same x.part y.part (p.answer ∙ sym q.answer) (p.len ∙ sym q.len)) (p.rows ∙ sym q.rows) (p.entries ∙ sym q.entries) (p.text ∙ sym q.text)
  where
    same : x.part ≡ y.part → x.rows ≡ y.rows → x.cols ≡ y.cols → x.out ≡ y.out → x ≡ y
    same e f g h = rw (e, f, g, h)

pub list_part_fixed : FixesSeen list-part.Post (λ k r s. part_outcome r s.1.1.1.0.now s.1.1.1.1.0.now s.1.1.1.1.1.0.now)
list_part_fixed k a x y s t p q = part_same _ _ _ _ p.0 q.0
