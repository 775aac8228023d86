-- What other crates rest on: they cite these laws and unfold no definition of this one.
-- Assumes nothing.
use Rattle.std.specs.Prelude.{None, Some}
use Prim.Native.Nat.{ℕ, zero, suc, ◌+◌, ◌-◌, ◌*◌, ◌/◌, ◌%◌, ◌<◌, ◌≤◌, min}
use mathlib.Core.Path.{◌≡◌, refl, sym, ap, ◌∙◌}
use mathlib.Core.Bool.{true, false, ◌||◌, or-true}
use mathlib.Core.Logic.{⊎_elim, by_cases}
use native.Mathlib.Decide.{ℕ_discrete}
use mathlib.Core.List.{List}
use native.Mathlib.Nat.{eq-or-lt_of_le, zero-mul, zero-add}
use native.Mathlib.Omega.{arith}
use lib.Dec.{ltb}
use lib.IntN.{ℤ, pos, negsuc, ◌-ℤ◌}
use lib.ListN.{length, get_or}
use lib.Signed.{lt_z}
use mir.Syntax.{w64}
use mir.Val.{SFits, to_z, of_z}
use mir.Facts.{to_z-of_z}
use borrow.Author.Tests.{lt-ltb, le-ltb, eq-eqb, ne_eqb, ltb-true}
use Rattle.std.proofs.lemmas.Option.{none-some, some_pair_parts}
use Rattle.record.specs.Entry.{body_state, unused_state, unlike, bad_within, bad_entry, read_entry, entry_refusal}
use Rattle.record.specs.Places.{places_from, stop_of, varint_places, AgreeAt}
use Rattle.record.specs.Value.{body_length, value_of, decode_at}
use Rattle.record.specs.Varint.{width_of, ended, varint_from, varint_at}
use Rattle.record.specs.declared.entry.Entry.{Entry}
use Rattle.record.specs.Value.{Length}
use Rattle.record.specs.declared.record.Value.{Value as Cell}
use Rattle.record.specs.declared.record.Value.TheVariants.{Null, Text, Blob}
use Rattle.record.specs.declared.varint.Cursor.{Cursor}
use Rattle.record.specs.Varint.{Varint}
use Rattle.record.proofs.Numbers.{by_order}
use Rattle.record.proofs.Values.{fits_inside, value_past, decoded}
use Rattle.record.proofs.Widths.{width_some}
use Rattle.record.proofs.Varints.{at_end, at_ninth, at_last, at_more, grown, over}

-- ---- where a varint lies

-- reading at `at`, with k bytes of seven bits to come at the most, stops in the slice, near, and not before `at`
pub record Reach (s : List ℕ) (at k : ℕ) (x : Varint) : Type 0 where
  pub inside : stop_of s x ≤ length s
  pub near : stop_of s x ≤ at + k + 1
  pub on : at ≤ length s → at ≤ stop_of s x
  pub past : at < length s → at < stop_of s x
  pub whole : (v : ℕ) (c : Cursor) → x ≡ Some (v, c) → at < c.at

next_at : {v w : ℕ} {a b : Cursor} → ◌≡◌ {A = Varint} (Some (v, a)) (Some (w, b)) → a.at ≡ b.at
next_at e = ap (λ (x : Cursor). x.at) (some_pair_parts _ _ _ _ e).1

one_byte : (s : List ℕ) (at k w n : ℕ) → at < length s → Reach s at k (ended w n (at + 1))
one_byte s at k w n h =
    record {
      inside = omega arith;
      near = omega arith;
      on = λ _. omega arith;
      past = λ _. omega arith;
      whole = λ v c e. let z = next_at e in omega arith;
    }

pub varint_reach : (s : List ℕ) (at : ℕ) → Reach s at 8 (varint_at s at)
unfolding varint_at
varint_reach s at =
    over s (λ a v k x. Reach s a k x)
    (λ a v k out.
    record { inside = omega arith; near = omega arith; on = λ h. h; past = λ h. h; whole = λ w c e. absurd (none-some _ e) })
    (λ a v h. one_byte s a 0 _ _ h)
    (λ a v k h low. one_byte s a (suc k) _ _ h)
    (λ a v k h high x z.
    let o = z.on (omega arith) in
    record {
      inside = z.inside;
      near = omega (arith, z.near);
      on = λ _. omega arith;
      past = λ _. omega arith;
      whole = λ w c e. omega (arith, z.whole w c e);
    })
    at 0 8

-- THE LAW: a whole varint takes one to nine bytes, all of the slice
pub record Lies (s : List ℕ) (at next : ℕ) : Type 0 where
  pub past : at < next
  pub nine : next ≤ at + 9
  pub inside : next ≤ length s

pub varint_lies : (s : List ℕ) (at v : ℕ) (c : Cursor) → varint_at s at ≡ Some (v, c) → Lies s at c.at
varint_lies s at v c e =
    let z = varint_reach s at in
    let y : stop_of s (varint_at s at) ≡ c.at = ap (stop_of s) e in
    record { past = z.whole v c e; nine = omega (arith, z.near); inside = omega (arith, z.inside) }

-- THE LAW: a byte below 128 is a varint of its own, and not padded
pub varint_low : (s : List ℕ) (at : ℕ) → at < length s → get_or s at 0 < 128 → varint_at s at ≡ Some ((get_or s at 0), (record { at = at + 1; padded = false }))
unfolding varint_at
varint_low s at h low =
    let z : ltb (width_of (get_or s at 0)) 1 ≡ false = le-ltb (width_of (get_or s at 0)) 1 (width_some (get_or s at 0)) in
    at_last s at 0 7 h low ∙ rw (zero-mul, zero-add, z)

-- THE LAW: and behind one from 128 up it is the second, and last
pub varint_two : (s : List ℕ) (at : ℕ) → at + 1 < length s → 128 ≤ get_or s at 0 → get_or s (at + 1) 0 < 128
    → varint_at s at ≡ ended (get_or s at 0 % 128 * 128 + get_or s (at + 1) 0) 2 (at + 1 + 1)
unfolding varint_at
varint_two s at h high low = at_more s at 0 7 (omega arith) high ∙ (at_last s (at + 1) (grown s at 0) 6 h low ∙ rw (zero-mul, zero-add))

-- THE LAW: and none goes on behind one
pub varint_ends : (s : List ℕ) (p : ℕ) → p < length s → get_or s p 0 < 128 → (at : ℕ) → at ≤ p → stop_of s (varint_at s at) ≤ p + 1
unfolding varint_at
varint_ends s p h low at le =
    over s (λ a v k x. a ≤ p → stop_of s x ≤ p + 1)
    (λ a v k out l. absurd (omega arith))
    (λ a v lt l. omega arith)
    (λ a v k lt l m. omega arith)
    (λ a v k lt high x z l.
    by_order a p (λ before. z (omega arith))
    (λ here. let e : a ≡ p = omega arith in let b = rw e at high in absurd (omega arith)))
    at 0 8 le

-- THE LAW: through bytes from 128 up, of which `to` is the end, one goes on for nine, or up to behind that end
pub varint_through : (s : List ℕ) (at to : ℕ) → at < to → to ≤ length s → ((p : ℕ) → at ≤ p → p < to → 128 ≤ get_or s p 0) → (to < length s → get_or s to 0 < 128)
    → stop_of s (varint_at s at) ≡ min (min (at + 9) (to + 1)) (length s)
unfolding varint_at
varint_through s at to some in' high low =
    over s (λ a v k x. at ≤ a → a ≤ to → stop_of s x ≡ min (min (a + (k + 1)) (to + 1)) (length s))
    (λ a v k out l m. omega arith)
    (λ a v lt l m. omega arith)
    (λ a v k lt b l m.
    by_order a to (λ before. let h = high a l before in absurd (omega arith)) (λ there. omega arith))
    (λ a v k lt b x z l m.
    by_order a to (λ before. z (omega arith) (omega arith) ∙ omega arith)
    (λ there. let e : a ≡ to = omega arith in let h = low (omega arith) in let c = rw e at b in absurd (omega arith)))
    at 0 8 (omega arith) (omega arith)

-- THE LAW: one whose first byte is from 133 up is 640 or more
pub varint_large : (s : List ℕ) (at : ℕ) → 133 ≤ get_or s at 0 → get_or s at 0 < 256 → (v : ℕ) (c : Cursor) → varint_at s at ≡ Some (v, c) → 640 ≤ v
unfolding varint_at
varint_large s at big byte v c e =
    by_order at (length s)
    (λ h.
    let r = rest (at + 1) (grown s at 0) 7 in
    omega (arith, r v c (sym (at_more s at 0 7 h (omega arith)) ∙ e)))
    (λ out. absurd (none-some _ (sym (at_end s at 0 8 out) ∙ e)))
  where
    rest : (a w k : ℕ) (y : ℕ) (d : Cursor) → varint_from s a w k ≡ Some (y, d) → w * 128 ≤ y
    rest =
        over s (λ a w k x. (y : ℕ) (d : Cursor) → x ≡ Some (y, d) → w * 128 ≤ y)
        (λ a w k out y d f. absurd (none-some _ f))
        (λ a w h y d f. let z = (some_pair_parts _ _ _ _ f).0 in omega arith)
        (λ a w k h low y d f. let z = (some_pair_parts _ _ _ _ f).0 in omega arith)
        (λ a w k h high x z y d f. omega (arith, z y d f))

-- ---- the bytes that reading a varint looks at

agree_at : (x y : List ℕ) (at n : ℕ) → AgreeAt x y (places_from at n) → (p : ℕ) → at ≤ p → p < at + n → get_or x p 0 ≡ get_or y p 0
agree_at x y at zero a p lo hi = absurd (omega arith)
agree_at x y at (suc n) a p lo hi =
    ⊎_elim
    (λ (e : at ≡ p). rw (← e) a.0)
    (λ (h : at < p). agree_at x y (at + 1) n a.1 p (omega arith) (omega arith))
    (eq-or-lt_of_le lo)

pub places_length : (at n : ℕ) → length (places_from at n) ≡ n
places_length at zero = refl
places_length at (suc n) = ap suc (places_length (at + 1) n)

module _ (x y : List ℕ) (same : length x ≡ length y) where
  abbrev Alike : ℕ → Varint → Type 0
  Alike at r = (p : ℕ) → at ≤ p → p < stop_of x r → get_or x p 0 ≡ get_or y p 0

  alike_from : (at v k : ℕ) → (at ≤ length x → at ≤ stop_of x (varint_from x at v k)) × (Alike at (varint_from x at v k) → varint_from y at v k ≡ varint_from x at v k)
  alike_from =
      over x (λ at v k r. (at ≤ length x → at ≤ stop_of x r) × (Alike at r → varint_from y at v k ≡ r))
      (λ at v k out. (λ h. h, λ a. at_end y at v k (omega arith)))
      (λ at v h. (λ _. omega arith, λ a. at_ninth y at v 0 (omega arith) ∙ rw (a at (omega arith) (omega arith))))
      (λ at v k h low. (
        λ _. omega arith,
        λ a.
            let e = a at (omega arith) (omega arith) in
            at_last y at v k (omega arith) (omega arith) ∙ rw e,
      ))
      (λ at v k h high r z.
      let o = z.0 (omega arith) in (
        λ _. omega arith,
        λ a.
            let e = a at (omega arith) (omega arith) in
            at_more y at v k (omega arith) (omega arith) ∙ rw (← e) (z.1 (λ p lo hi. a p (omega arith) hi)),
      ))

  -- THE LAW: two slices of one length that agree where the first one's varint is read give the same answer
  pub varint_agree : (at : ℕ) → AgreeAt x y (varint_places x at) → varint_at y at ≡ varint_at x at
  unfolding varint_places varint_at
  varint_agree at a = (alike_from at 0 8).1 (λ p lo hi. agree_at x y at (stop_of x (varint_at x at) - at) a p lo (omega arith))

  -- and so are the places themselves
  pub places_agree : (at : ℕ) → AgreeAt x y (varint_places x at) → varint_places y at ≡ varint_places x at
  unfolding varint_places
  places_agree at a =
      let e : stop_of y (varint_at y at) ≡ stop_of x (varint_at x at) = rw (varint_agree at a) (stop_same (varint_at x at)) in
      rw e
    where
      stop_same : (r : Varint) → stop_of y r ≡ stop_of x r
      stop_same (Some (v, c)) = refl
      stop_same None = sym same

pub places_are : (s : List ℕ) (at : ℕ) → varint_places s at ≡ places_from at (stop_of s (varint_at s at) - at)
unfolding varint_places
places_are s at = refl

pub places_count : (s : List ℕ) (at : ℕ) → length (varint_places s at) ≡ stop_of s (varint_at s at) - at
unfolding varint_places
places_count s at = places_length at _

-- ---- values

-- THE LAW: what is decoded and starts in the slice ends in it
pub decoded_ends : (t : ℕ) (s : List ℕ) (at : ℕ) (v : Cell) (n : ℕ) → at ≤ length s → decode_at t s at ≡ Some (v, n) → at + n ≤ length s
decoded_ends t s at v n h e = let d = decoded t s at v n e in fits_inside t n s at d.0 d.1 h

-- THE LAW: of types from 12 up the even ones are blobs and the odd ones texts, of as many bytes as the type says
pub long_value : {C : Type 0} (t : ℕ) (s : List ℕ) (at n : ℕ) → 12 ≤ t → body_length t ≡ Some n →
    (t ≡ 12 + 2 * n → value_of t s at n ≡ Blob at n → C) → (t ≡ 13 + 2 * n → value_of t s at n ≡ Text at n → C) → C
unfolding body_length
long_value t s at n big l blob text =
    let past = value_past t s at n (omega arith) in
    let ge10 = le-ltb t 10 (omega arith) in
    let ge12 = le-ltb t 12 (omega arith) in
    by_cases (ℕ_discrete (t % 2) 0)
    (λ even.
    let q = eq-eqb (t % 2) 0 even in
    let z : Some ((t - 12) / 2) ≡ Some n = simp (ge10, ge12, q) at l in
    let y : (t - 12) / 2 ≡ n = cc in
    blob (omega arith) (simp (past, q)))
    (λ odd.
    let q = ne_eqb (t % 2) 0 odd in
    let z : Some ((t - 13) / 2) ≡ Some n = simp (ge10, ge12, q) at l in
    let y : (t - 13) / 2 ≡ n = cc in
    text (omega arith) (simp (past, q)))

-- ---- entries
module _ (e : Entry) (all : ℕ) where
  pub bad_state : unused_state < e.state → bad_within e all ≡ true
  unfolding bad_within
  bad_state h = simp (lt-ltb unused_state e.state h)

  pub bad_body : e.state ≡ body_state → ((n : ℕ) → body_length e.kind ≡ Some n → e.len ≡ n → all < e.start + n) → bad_within e all ≡ true
  unfolding bad_within
  bad_body z h = simp z (by_length (body_length e.kind) refl)
    where
      by_length : (l : Length) → body_length e.kind ≡ l → (unlike e.len l || ltb all (e.start + e.len)) ≡ true
      by_length None l = refl
      by_length (Some n) l =
          by_cases (ℕ_discrete e.len n)
          (λ q. simp (lt-ltb all (e.start + e.len) (omega (arith, h n l q)), or-true))
          (λ ne. simp (ne_eqb e.len n ne))

  pub good_bodiless : (e.state ≡ body_state → ⊥) → e.state ≤ unused_state → bad_within e all ≡ false
  unfolding bad_within
  good_bodiless other hi = simp (le-ltb unused_state e.state hi, ne_eqb e.state body_state other)

  -- where the length is the type's, the place decides
  pub bad_by_place : e.state ≡ body_state → body_length e.kind ≡ Some e.len → bad_within e all ≡ ltb all (e.start + e.len)
  unfolding bad_within
  bad_by_place z l = simp (z, l, eq-eqb e.len e.len refl)

module _ (e : Entry) (s : List ℕ) where
  -- THE LAW: a bad entry is refused
  pub entry_refused : bad_entry e s ≡ true → (read_entry e s ≡ None) × (◌≡◌ {A = ℕ} (entry_refusal e s) 2)
  unfolding read_entry entry_refusal
  entry_refused b = (simp b, simp b)

  -- THE LAW: the states of no body read as NULL
  pub entry_null : (e.state ≡ body_state → ⊥) → e.state ≤ unused_state → (read_entry e s ≡ Some Null) × (◌≡◌ {A = ℕ} (entry_refusal e s) 0)
  unfolding read_entry entry_refusal bad_within
  entry_null other hi =
      let big = le-ltb unused_state e.state hi in
      let none = ne_eqb e.state body_state other in
      (simp (big, none), simp (big, none))

  -- THE LAW: a body that is there is read
  pub entry_body : e.state ≡ body_state → body_length e.kind ≡ Some e.len → e.start + e.len ≤ length s →
      (read_entry e s ≡ Some (value_of e.kind s e.start e.len)) × (◌≡◌ {A = ℕ} (entry_refusal e s) 0)
  unfolding read_entry entry_refusal bad_within
  entry_body z l h =
      let out = le-ltb (length s) (e.start + e.len) h in
      let like = eq-eqb e.len e.len refl in
      (simp (z, l, like, out), simp (z, l, like, out))

  -- THE LAW: a good entry is read: where there is a body, as the value of its type
  pub good_body : e.state ≡ body_state → bad_entry e s ≡ false → (body_length e.kind ≡ Some e.len) × (read_entry e s ≡ Some (value_of e.kind s e.start e.len))
  unfolding read_entry
  good_body z good = (by_length (body_length e.kind) refl, simp (good, z))
    where
      bad : bad_entry e s ≡ true → ⊥
      bad b = let y : ◌≡◌ {A = ℕ} 0 1 = cc in absurd (omega arith)

      by_length : (l : Length) → body_length e.kind ≡ l → body_length e.kind ≡ Some e.len
      by_length None l = absurd (bad (bad_body e (length s) z (λ n k q. let y : ◌≡◌ {A = ℕ} 0 1 = cc in absurd (omega arith))))
      by_length (Some n) l =
          by_cases (ℕ_discrete e.len n)
          (λ q. rw q l)
          (λ ne. absurd (bad (bad_body e (length s) z (λ m k q. let y : Some m ≡ Some n = cc in absurd (ne (cc))))))

  pub good_read : bad_entry e s ≡ false → (v : Cell) × (read_entry e s ≡ Some v)
  good_read good =
      by_cases (ℕ_discrete e.state body_state)
      (λ there. (_, (good_body there good).1))
      (λ other. (Null, (entry_null other (by_order unused_state e.state (λ big. let y : ◌≡◌ {A = ℕ} 0 1 = cc (bad_state e (length s) big) in absurd (omega arith)) (λ hi. hi))).0))

  -- THE LAW: a body that is there reads as what is decoded at its start, if the length is what that takes
  module _ (body : e.state ≡ body_state) (v : Cell) (n : ℕ) (there : decode_at e.kind s e.start ≡ Some (v, n)) where
    pub entry_decoded : e.start ≤ length s → e.len ≡ n → (read_entry e s ≡ Some v) × (◌≡◌ {A = ℕ} (entry_refusal e s) 0)
    entry_decoded h q =
        let d = decoded e.kind s e.start v n there in
        let b = entry_body body (rw q d.0) (omega (arith, fits_inside e.kind n s e.start d.0 d.1 h)) in
        (b.0 ∙ rw (q, ← d.2), b.1)

    pub bad_length : (e.len ≡ n → ⊥) → bad_entry e s ≡ true
    bad_length ne =
        let d = decoded e.kind s e.start v n there in
        bad_body e (length s) body (λ m l q. let z : Some m ≡ Some n = cc in absurd (ne (cc)))

  -- THE LAW: an entry that was read stands for NULL, or for a body that lies in the slice
  pub entry_cases : (P : Cell → Type 0) → P Null →
      (body_length e.kind ≡ Some e.len → e.start + e.len ≤ length s → P (value_of e.kind s e.start e.len)) →
      (v : Cell) → read_entry e s ≡ Some v → P v
  entry_cases P null body v r =
      by_order unused_state e.state (λ big. refused (bad_state e (length s) big))
      (λ hi.
      by_cases (ℕ_discrete e.state body_state)
      (λ there. by_length there (body_length e.kind) refl)
      (λ other. let z : v ≡ Null = cc (entry_null other hi).0 in rw z null))
    where
      refused : bad_entry e s ≡ true → P v
      refused b = let z : ◌≡◌ {A = ℕ} 0 1 = cc (entry_refused b).0 in absurd (omega arith)

      by_length : e.state ≡ body_state → (l : Length) → body_length e.kind ≡ l → P v
      by_length there None l = refused (bad_body e (length s) there (λ n k q. let z : ◌≡◌ {A = ℕ} 0 1 = cc in absurd (omega arith)))
      by_length there (Some n) l =
          by_cases (ℕ_discrete e.len n)
          (λ q.
          by_order (length s) (e.start + e.len)
          (λ out. refused (bad_body e (length s) there (λ m k w. omega arith)))
          (λ h.
          let like : body_length e.kind ≡ Some e.len = cc in
          let z : v ≡ value_of e.kind s e.start e.len = cc (entry_body there like h).0 in
          rw z (body like h)))
          (λ ne. refused (bad_body e (length s) there (λ m k q. let z : Some m ≡ Some n = cc in absurd (ne (cc)))))

-- ---- signed numbers of 64 bits, as the machine keeps them

-- THE LAW: of v = -1 - n the code's -1 - v makes n
pub record Below (v : ℤ) : Type 0 where
  pub n : ℕ
  pub is : v ≡ negsuc n
  pub fits : SFits w64 (pos n)
  pub made : negsuc 0 -ℤ to_z w64 (of_z w64 v) ≡ pos n
  pub kept : to_z w64 (of_z w64 (negsuc 0 -ℤ to_z w64 (of_z w64 v))) ≡ pos n

pub below_zero : {v : ℤ} → SFits w64 v → lt_z (to_z w64 (of_z w64 v)) (pos 0) ≡ true → Below v
below_zero {v} f e =
    let k = to_z-of_z f in
    let b = negative v f (rw k at e) in
    let m : negsuc 0 -ℤ to_z w64 (of_z w64 v) ≡ pos b.0 = rw k b.2 in
    record { n = b.0; is = b.1; fits = b.3; made = m; kept = rw m (to_z-of_z b.3) }
  where
    negative : (v : ℤ) → SFits w64 v → lt_z v (pos 0) ≡ true → (n : ℕ) × (v ≡ negsuc n) × (negsuc 0 -ℤ v ≡ pos n) × SFits w64 (pos n)
    negative (pos n) f e = absurd (omega (arith, ltb-true n 0 e))
    negative (negsuc n) f e =
        let d : suc n - 1 ≡ n = omega arith in
        (n, refl, simp (le-ltb (suc n) 1 (omega arith), d), record { sfits = f.sfits })

-- and one from 0 up is kept as it is
pub record From (v : ℤ) : Type 0 where
  pub n : ℕ
  pub is : v ≡ pos n
  pub fits : SFits w64 (pos n)
  pub kept : to_z w64 (of_z w64 v) ≡ pos n

pub from_zero : {v : ℤ} → SFits w64 v → lt_z (to_z w64 (of_z w64 v)) (pos 0) ≡ false → From v
from_zero {v} f e =
    let k = to_z-of_z f in
    let b = whole v (rw k at e) in
    record { n = b.0; is = b.1; fits = rw b.1 at f; kept = k ∙ b.1 }
  where
    whole : (v : ℤ) → lt_z v (pos 0) ≡ false → (n : ℕ) × (v ≡ pos n)
    whole (pos n) e = (n, refl)
    whole (negsuc n) e = let z : ◌≡◌ {A = ℕ} 0 1 = cc in absurd (omega arith)
