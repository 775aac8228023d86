-- A slice that lies in another: what is read in the one, said of the other.
-- Assumes nothing.
use Rattle.std.specs.Prelude.{None, Some}
use Prim.Native.Nat.{ℕ, zero, suc, ◌+◌, ◌-◌, ◌*◌, ◌%◌, ◌≤◌, ◌<◌}
use mathlib.Core.Path.{◌≡◌, refl, sym, ◌∙◌}
use mathlib.Core.Bool.{Bool, true, false, cond}
use mathlib.Core.List.{List}
use native.Mathlib.Nat.{add_assoc}
use native.Mathlib.Omega.{arith}
use lib.Dec.{ltb, eqb}
use lib.Ieee.{binary64, of_bits}
use lib.IntN.{pos}
use lib.ListN.{length, take, drop, get_or, length-take, length-drop}
use lib.Seq.{get_or-take, get_or-drop}
use Rattle.record.specs.Value.{big_endian, twos_complement, value_of, moved_value}
use Rattle.record.specs.Varint.{varint_from, varint_at}
use Rattle.record.specs.declared.record.Value.{Value as Cell}
use Rattle.record.specs.declared.record.Value.TheVariants.{Null, Int, Real, Text, Blob}
use Rattle.record.specs.Varint.{Varint}
use Rattle.record.proofs.Varints.{at_end, at_ninth, at_last, at_more, over}

-- p is the part of s that begins at `by`
pub record PartOf (by : ℕ) (p s : List ℕ) : Type 0 where
  pub ends : by + length p ≤ length s
  pub same : (i : ℕ) → i < length p → get_or s (by + i) 0 ≡ get_or p i 0

pub part_taken : (s : List ℕ) (by len : ℕ) → by + len ≤ length s → PartOf by (take len (drop by s)) s
part_taken s by len h =
    let l : length (take len (drop by s)) ≡ len = simp (length-take, length-drop) (omega arith) in
    record { ends = omega arith; same = λ i lt. sym (get_or-take len (drop by s) i 0 (omega arith) ∙ get_or-drop by s i 0) }

pub part_rest : (s : List ℕ) (by : ℕ) → by ≤ length s → PartOf by (drop by s) s
part_rest s by h = record { ends = rw length-drop (omega arith); same = λ i lt. sym (get_or-drop by s i 0) }

-- a part of a part
pub part_within : {a b : ℕ} {q p s : List ℕ} → PartOf a q p → PartOf b p s → PartOf (b + a) q s
part_within {a} {b} {q} {p} {s} x y =
    record {
      ends = omega (arith, x.ends, y.ends);
      same = λ i lt. rw (add_assoc b a i) (y.same (a + i) (omega (arith, x.ends)) ∙ x.same i lt);
    }

-- ---- varints
abbrev pub moved_varint : ℕ → Varint → Varint
moved_varint by (Some (v, c)) = Some (v, (record { at = by + c.at; padded = c.padded }))
moved_varint by None = None

-- THE LAW: a varint of the part is one of the slice, if both end at the same place; and so is the rest of one
pub rest_moved : {by : ℕ} {p s : List ℕ} → PartOf by p s → by + length p ≡ length s → (at v k : ℕ)
    → varint_from s (by + at) v k ≡ moved_varint by (varint_from p at v k)
rest_moved {by} {p} {s} part e =
    over p (λ at v k x. varint_from s (by + at) v k ≡ moved_varint by x)
    (λ at v k out. at_end s (by + at) v k (omega arith))
    (λ at v h. at_ninth s (by + at) v 0 (omega arith) ∙ rw (part.same at h, add_assoc by at 1))
    (λ at v k h low. at_last s (by + at) v k (omega arith) (rw (part.same at h) low) ∙ rw (part.same at h, add_assoc by at 1))
    (λ at v k h high x z. at_more s (by + at) v k (omega arith) (rw (part.same at h) high) ∙ rw (part.same at h, add_assoc by at 1) z)

pub varint_moved : {by : ℕ} {p s : List ℕ} → PartOf by p s → by + length p ≡ length s → (at : ℕ) → varint_at s (by + at) ≡ moved_varint by (varint_at p at)
unfolding varint_at
varint_moved part e at = rest_moved part e at 0 8

-- ---- values
pub big_endian_moved : {by : ℕ} {p s : List ℕ} → PartOf by p s → (at n : ℕ) → at + n ≤ length p → big_endian s (by + at) n ≡ big_endian p at n
unfolding big_endian
big_endian_moved part at zero h = refl
big_endian_moved {by} part at (suc n) h = rw (big_endian_moved part at n (omega arith), add_assoc by at n, part.same (at + n) (omega arith))

-- THE LAW: the value of a body in the part is that of the body in the slice; a text or a blob lies there
pub value_moved : {by : ℕ} {p s : List ℕ} → PartOf by p s → (t at n : ℕ) → at + n ≤ length p → value_of t s (by + at) n ≡ moved_value by (value_of t p at n)
unfolding value_of
value_moved {by} {p} {s} part t at n h = rw (big_endian_moved part at n h) (go (eqb t 0) (ltb t 7) (eqb t 7) (ltb t 10) (eqb (t % 2) 0))
  where
    kind : ℕ → Bool → Bool → Bool → Bool → Bool → Cell
    kind start a b c d e =
        cond a Null
        (cond b (Int (twos_complement (8 * n) (big_endian p at n)))
        (cond c (Real (of_bits binary64 (big_endian p at n))) (cond d (Int (pos (t - 8))) (cond e (Blob start n) (Text start n)))))

    go : (a b c d e : Bool) → kind (by + at) a b c d e ≡ moved_value by (kind at a b c d e)
    go true b c d e = refl
    go false true c d e = refl
    go false false true d e = refl
    go false false false true e = refl
    go false false false false true = refl
    go false false false false false = refl

pub moved_again : (a b : ℕ) (v : Cell) → moved_value a (moved_value b v) ≡ moved_value (a + b) v
moved_again a b Null = refl
moved_again a b (Int z) = refl
moved_again a b (Real x) = refl
moved_again a b (Text at n) = rw (← add_assoc a b at)
moved_again a b (Blob at n) = rw (← add_assoc a b at)
