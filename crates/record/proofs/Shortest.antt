-- A number that is read is marked as padded just where a varint of fewer bytes has its value.
-- Assumes nothing.
use Rattle.std.specs.Prelude.{None, Some}
use Prim.Native.Nat.{ℕ, zero, suc, ◌+◌, ◌-◌, ◌*◌, ◌/◌, ◌%◌, ◌^◌, ◌<◌, ◌≤◌}
use mathlib.Core.Path.{◌≡◌, refl, sym, ap, ◌∙◌}
use mathlib.Core.Bool.{true, false}
use mathlib.Core.List.{List, [], ◌∷◌, ◌++◌, append_assoc}
use native.Mathlib.Omega.{arith}
use lib.Dec.{ltb}
use lib.ListN.{get_or}
use lib.Pow.{shr_lt, pow_mono}
use borrow.Author.Tests.{le-ltb, ltb-true, ltb-false}
use Rattle.record.specs.Varint.{width_of, varint_from, varint_at, Shortest}
use Rattle.record.specs.declared.varint.Cursor.{Cursor}
use Rattle.record.specs.Varint.{Varint}
use Rattle.record.proofs.Numbers.{by_order, one_more}
use Rattle.record.proofs.Shifts.{PartOf, moved_varint, rest_moved}
use Rattle.record.proofs.Varints.{at_last, at_ninth, at_more, grown, over}
use Rattle.record.proofs.Laws.{varint_lies}
use Rattle.record.proofs.Widths.{width_some, width_most, width_least, width_nine, width_nine_most}

-- ---- what n bytes hold

-- the rest of a number, of which 8 - k bytes were read before `at` and gave v: the mark goes by the bytes read in all, and they have seven
-- bits each, unless they are nine
abbrev Holds : ℕ → ℕ → ℕ → Varint → Type 0
Holds at v k None = Unit
Holds at v k (Some (w, c)) =
    k ≤ 8 → (at < c.at) × (c.padded ≡ ltb (width_of w) (8 - k + (c.at - at)))
    × (v < 2 ^ (7 * (8 - k)) → 8 - k + (c.at - at) < 9 → w < 2 ^ (7 * (8 - k + (c.at - at))))

module _ (s : List ℕ) where
  holds : (at v k : ℕ) → Holds at v k (varint_from s at v k)
  holds =
      over s Holds
      (λ at v k out. tt)
      (λ at v h few. let n : 8 - 0 + (at + 1 - at) ≡ 9 = omega arith in (omega arith, rw n, λ small nine. absurd (omega arith)))
      (λ at v k h low few.
      let n : 8 - suc k + (at + 1 - at) ≡ 8 - k = omega arith in
      let m : 8 - k ≡ 8 - suc k + 1 = omega arith in
      (omega arith, rw n, λ small nine. rw (n, m) (one_more 7 (8 - suc k) v (get_or s at 0) small low)))
      (λ at v k h high x rest. more at v k x rest)
    where
      more : (at v k : ℕ) (x : Varint) → Holds (at + 1) (grown s at v) k x → Holds at v (suc k) x
      more at v k None rest = tt
      more at v k (Some (w, c)) rest = λ few.
          let r = rest (omega arith) in
          let n : 8 - k + (c.at - (at + 1)) ≡ 8 - suc k + (c.at - at) = omega (arith, r.0) in
          let m : 8 - k ≡ 8 - suc k + 1 = omega arith in (
            omega (arith, r.0),
            rw n at r.1,
            λ small nine. rw n at (r.2 (rw m (one_more 7 (8 - suc k) v (get_or s at 0 % 128) small (omega arith))) (omega arith)),
          )

module _ (s : List ℕ) (at v : ℕ) (c : Cursor) (e : varint_at s at ≡ Some (v, c)) where
  whole : (at < c.at) × (c.padded ≡ ltb (width_of v) (c.at - at)) × (c.at - at < 9 → v < 2 ^ (7 * (c.at - at)))
  unfolding varint_at
  whole =
      let h : Holds at 0 8 (Some (v, c)) = rw e at (holds s at 0 8) in
      let r = h (omega arith) in
      let n : 8 - 8 + (c.at - at) ≡ c.at - at = omega arith in
      (r.0, rw n at r.1, λ nine. rw n at (r.2 (omega arith) (omega arith)))

  -- THE LAW: the mark says that the shortest form takes fewer bytes than were read
  pub padded_is : c.padded ≡ ltb (width_of v) (c.at - at)
  padded_is = whole.1

  -- THE LAW: n bytes hold no number from 2^(7n) up, unless they are nine
  pub seven_each : c.at - at < 9 → v < 2 ^ (7 * (c.at - at))
  seven_each = whole.2

  -- so no varint of v has fewer bytes than its shortest form
  pub width_or_more : width_of v ≤ c.at - at
  width_or_more =
      by_order (c.at - at) 9
      (λ few. width_most v (c.at - at) (omega (arith, whole.0)) (omega arith) (seven_each few))
      (λ nine. omega (arith, width_nine_most v))

-- ---- a varint of so many bytes

-- the high groups of a number, each with the bit that says that another byte follows: n of them, and r is what they hold
abbrev groups : ℕ → ℕ → List ℕ
groups zero r = []
groups (suc n) r = groups n (r / 128) ++ (128 + r % 128) ∷ []

-- they are bytes
abbrev pub AllBytes : List ℕ → Type 0
AllBytes [] = Unit
AllBytes (b ∷ bs) = (b < 256) × AllBytes bs

bytes_behind : (xs : List ℕ) (b : ℕ) → AllBytes xs → b < 256 → AllBytes (xs ++ b ∷ [])
bytes_behind [] b all h = (h, tt)
bytes_behind (x ∷ xs) b all h = (all.0, bytes_behind xs b all.1 h)

groups_bytes : (n r : ℕ) → AllBytes (groups n r)
groups_bytes zero r = tt
groups_bytes (suc n) r = bytes_behind (groups n (r / 128)) (128 + r % 128) (groups_bytes n (r / 128)) (omega arith)

moved_none : (x : Varint) → moved_varint 0 x ≡ x
moved_none (Some (v, c)) = let e : 0 + c.at ≡ c.at = omega arith in rw e
moved_none None = refl

moved_twice : (n : ℕ) (x : Varint) → moved_varint n (moved_varint 1 x) ≡ moved_varint (suc n) x
moved_twice n (Some (v, c)) = let e : n + (1 + c.at) ≡ suc n + c.at = omega arith in rw e
moved_twice n None = refl

behind_one : (b : ℕ) (l : List ℕ) → PartOf 1 l (b ∷ l)
behind_one b l = record { ends = omega arith; same = λ i lt. let e : 1 + i ≡ suc i = omega arith in rw e }

-- reading goes through them to what stands behind
through : (n r k : ℕ) (rest : List ℕ) → r < 2 ^ (7 * n) → varint_from (groups n r ++ rest) 0 0 (n + k) ≡ moved_varint n (varint_from rest 0 r k)
through zero r k rest h = let z : r ≡ 0 = omega arith in let e : 0 + k ≡ k = omega arith in rw (z, e) (sym (moved_none (varint_from rest 0 0 k)))
through (suc n) r k rest h =
    let b = 128 + r % 128 in
    let s : suc n + k ≡ n + suc k = omega arith in
    let p : 7 * suc n ≡ 7 * n + 7 = omega arith in
    let g : r / 128 * 128 + b % 128 ≡ r = omega arith in
    let one : varint_from (b ∷ rest) 0 (r / 128) (suc k) ≡ moved_varint 1 (varint_from rest 0 r k) =
    at_more (b ∷ rest) 0 (r / 128) k (omega arith) (omega arith) ∙ rw g (rest_moved (behind_one b rest) (omega arith) 0 r k) in
    rw (append_assoc (groups n (r / 128)) (b ∷ []) rest, s)
    (through n (r / 128) (suc k) (b ∷ rest) (shr_lt (7 * n) 7 (rw p at h)) ∙ (ap (moved_varint n) one ∙ moved_twice n (varint_from rest 0 r k)))

-- a slice of bytes that is read as v, in its shortest form
pub record Written (v : ℕ) : Type 0 where
  pub bytes : List ℕ
  pub all_bytes : AllBytes bytes
  pub is : varint_at bytes 0 ≡ Some (v, (record { at = width_of v; padded = false }))

module _ (v : ℕ) where
  low_form : (n : ℕ) → width_of v ≡ suc n → n < 8 → Written v
  unfolding varint_at
  low_form n w few =
      let k : n + suc (7 - n) ≡ 8 = omega arith in
      let in' : v < 2 ^ (7 * suc n) = by_order v (2 ^ (7 * suc n)) (λ h. h) (λ out. absurd (omega (arith, width_least v (suc n) (omega arith) out))) in
      let p : 7 * suc n ≡ 7 * n + 7 = omega arith in
      let d : v / 128 * 128 + v % 128 ≡ v = omega arith in
      let m : 8 - (7 - n) ≡ suc n = omega arith in
      let a : n + (0 + 1) ≡ suc n = omega arith in
      let f : ltb (width_of v) (suc n) ≡ false = le-ltb (width_of v) (suc n) (omega arith) in
      record {
        bytes = groups n (v / 128) ++ (v % 128) ∷ [];
        all_bytes = bytes_behind (groups n (v / 128)) (v % 128) (groups_bytes n (v / 128)) (omega arith);
        is =
            rw k at (through n (v / 128) (suc (7 - n)) ((v % 128) ∷ []) (shr_lt (7 * n) 7 (rw p at in')))
            ∙ (ap (moved_varint n) (at_last ((v % 128) ∷ []) 0 (v / 128) (7 - n) (omega arith) (omega arith)) ∙ rw (d, m, a, f, w));
      }

  high_form : 2 ^ 56 ≤ v → v < 2 ^ 64 → Written v
  unfolding varint_at
  high_form far h =
      let d : v / 256 * 256 + v % 256 ≡ v = omega arith in
      let f : ltb (width_of v) 9 ≡ false = le-ltb (width_of v) 9 (omega (arith, width_nine v far)) in
      record {
        bytes = groups 8 (v / 256) ++ (v % 256) ∷ [];
        all_bytes = bytes_behind (groups 8 (v / 256)) (v % 256) (groups_bytes 8 (v / 256)) (omega arith);
        is =
            through 8 (v / 256) 0 ((v % 256) ∷ []) (shr_lt 56 8 h)
            ∙ (ap (moved_varint 8) (at_ninth ((v % 256) ∷ []) 0 (v / 256) 0 (omega arith)) ∙ rw (d, f, width_nine v far));
      }

  -- THE LAW: some varint of the shortest form's bytes has the value
  pub written : v < 2 ^ 64 → Written v
  written h =
      by_order v (2 ^ 56)
      (λ low. low_form (width_of v - 1) (omega (arith, width_some v)) (omega (arith, width_most v 8 (omega arith) (omega arith) low, width_some v)))
      (λ high. high_form high h)

-- ---- THE LAW: not padded is the shortest form, by the format; padded is not
module _ (s : List ℕ) (at v : ℕ) (c : Cursor) (e : varint_at s at ≡ Some (v, c)) where
  pub shortest_is : c.padded ≡ false → Shortest v (c.at - at)
  shortest_is f t o d g =
      let k = ltb-false (width_of v) (c.at - at) (sym (padded_is s at v c e) ∙ f) in
      omega (arith, width_or_more t o v d g)

  pub longer_is : c.padded ≡ true → Shortest v (c.at - at) → ⊥
  longer_is f all =
      let k = ltb-true (width_of v) (c.at - at) (sym (padded_is s at v c e) ∙ f) in
      let small : v < 2 ^ 56 = by_order v (2 ^ 56) (λ h. h) (λ far. absurd (omega (arith, width_nine v far, (varint_lies s at v c e).nine))) in
      let x : 2 ^ 56 ≤ 2 ^ 64 = pow_mono {i = 56} {j = 64} (omega arith) in
      let w = written v (omega arith) in
      omega (arith, all w.bytes 0 (record { at = width_of v; padded = false }) w.is)
