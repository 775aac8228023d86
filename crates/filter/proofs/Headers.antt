-- What the first byte at an offset tells of the attempt there.
-- Assumes nothing.
use Rattle.std.specs.Prelude.{Option, None, Some}
use Prim.Native.Nat.{ℕ, zero, suc, ◌+◌, ◌-◌, ◌*◌, ◌≤◌, ◌<◌}
use mathlib.Core.Path.{◌≡◌, refl, sym, ap, ◌∙◌}
use mathlib.Core.Bool.{Bool, true, false, false≢true}
use mathlib.Core.List.{List}
use native.Mathlib.Omega.{arith}
use borrow.Author.Tests.{ltb-true}
use lib.Dec.{ltb}
use lib.ListN.{length, get_or, take, drop, length-take, length-drop}
use lib.Seq.{get_or-take, get_or-drop}
use Rattle.std.proofs.lemmas.List.Folds.{list_all_at}
use Rattle.std.specs.List.{list_all}
use Rattle.attempt.proofs.Judging.{fits, fits_not, attempt_short, attempt_bad, attempt_is, places_is, headed, read_all, judge_never}
use Rattle.attempt.specs.Attempt.{kinds, is_whole, header_fits}
use Rattle.attempt.specs.Inner.{reach, header_types, Headed, Ends}
use Rattle.filter.specs.Inner.{MissAt, Dismissed, Holds, AllLow, SoonEnds, MayHave}
use Rattle.filter.specs.declared.inner.high.High.{High}
use Rattle.attempt.proofs.Skipping.{Skipped, skipped_start, skipped_step, skipped_more, skip_past, ends_start, ends_pass, ends_step, ends_end, unfitting}
use Rattle.record.proofs.Laws.{varint_low, varint_large, varint_through}
use Rattle.record.proofs.Numbers.{by_order, by_test}
use Rattle.record.specs.Places.{stop_of}
use Rattle.record.specs.Varint.{varint_at}
use Rattle.record.specs.Varint.{Varint}

module _ (s hints : List ℕ) (o h : ℕ) (inside : o < length s) (is : h ≡ get_or s o 0) where
  -- below 128 it is the header's length,
  module _ (low : h < 128) where
    number : varint_at s o ≡ Some (h, (record { at = o + 1; padded = false }))
    number = varint_low s o inside (rw is at low) ∙ rw is

    pub one_not : header_fits (length s) o h ≡ false → MissAt s hints o 1
    one_not f = let e : o + 1 - o ≡ 1 = omega arith in rw e at (attempt_bad s hints o h (record { at = o + 1; padded = false }) number f)

    pub too_low : h < 2 → MissAt s hints o 1
    too_low lt = one_not (fits_not (length s) o h (λ p q r. omega arith))

    pub too_far : length s - o < h → MissAt s hints o 1
    too_far lt = one_not (fits_not (length s) o h (λ p q r. omega arith))

    module _ (two : 2 ≤ h) (in' : h ≤ length s - o) where
      one_headed : Headed s o h (o + 1)
      one_headed = headed s o h (record { at = o + 1; padded = false }) number two (omega arith) in' (omega arith)

      pub one_past : o ≤ reach s (header_types s o h (o + 1))
      one_past = omega (arith, (read_all s hints o h (o + 1) one_headed).0)

      module _ (none : is_whole (header_types s o h (o + 1)) ≡ true → length (kinds (header_types s o h (o + 1))) ≡ length hints → ⊥) where
        pub one_never : MissAt s hints o (reach s (header_types s o h (o + 1)) - o)
        one_never =
            let f = fits (length s) o h two (omega arith) in' in
            rw (attempt_is s hints o h (record { at = o + 1; padded = false }) number f, places_is s o h (record { at = o + 1; padded = false }) number f)
            (judge_never s hints o h (o + 1) one_headed _ none)

        pub one_soon : (r : Option ℕ) → SoonEnds s o h r → Dismissed s hints o r
        one_soon None ends = tt
        one_soon (Some r) ends = let d : reach s (header_types s o h (o + 1)) - o ≡ r = omega (arith, ends) in rw d at one_never

  -- and from 133 up it begins a number above 512
  pub large_not : 133 ≤ h → h < 256 → MissAt s hints o (stop_of s (varint_at s o) - o)
  large_not big byte = go (varint_at s o) refl
    where
      go : (v : Varint) → varint_at s o ≡ v → MissAt s hints o (stop_of s v - o)
      go (Some (n, c)) e =
          attempt_bad s hints o n c e
          (fits_not (length s) o n (λ p q r. omega (arith, varint_large s o (rw is at big) (rw is at byte) n c e)))
      go None e = attempt_short s hints o e (omega arith)

  -- of k + 1 bytes, if the next below 128 is so far
  pub large_short : 133 ≤ h → h < 256 → (k : ℕ) → 0 < k → k < 8 → o + k < length s → ((q : ℕ) → o ≤ q → q < o + k → 128 ≤ get_or s q 0) → get_or s (o + k) 0 < 128 → MissAt s hints o (k + 1)
  large_short big byte k some few in' high low =
      let e = varint_through s o (o + k) (omega arith) (omega arith) high (λ _. low) in
      let d : stop_of s (varint_at s o) - o ≡ k + 1 = omega arith in
      rw d at (large_not big byte)

-- ---- where reading the types of a header ends
module _ (s : List ℕ) (o h : ℕ) (in' : o + h ≤ length s) where
  -- it comes to behind any byte below 128, the first one too
  comes_to : (p : ℕ) → o ≤ p → p < o + h → get_or s p 0 < 128 → Ends s (header_types s o h (o + 1)) (p + 1) (o + h)
  comes_to p lo hi low =
      by_order o p
      (λ past. ends_pass s (o + h) in' p hi low h (o + 1) (omega arith) (omega arith))
      (λ here. let e : p ≡ o = omega arith in rw e (ends_start s (o + h) in' h (o + 1) (omega arith)))

  -- to the header's end, if its last byte is one,
  pub ends_last : 2 ≤ h → get_or s (o + h - 1) 0 < 128 → SoonEnds s o h (Some h)
  ends_last two low =
      let e : o + h - 1 + 1 ≡ o + h = omega arith in
      sym (ends_end s (o + h) in' (header_types s o h (o + 1)) (o + h) (omega arith) (rw e at (comes_to (o + h - 1) (omega arith) (omega arith) low)))

  -- to the end of the varint there, if the byte before is,
  pub ends_next : 2 ≤ h → get_or s (o + h - 2) 0 < 128 → (r : ℕ) → o + r ≡ stop_of s (varint_at s (o + h - 1)) → SoonEnds s o h (Some r)
  ends_next two low r is =
      let ts = header_types s o h (o + 1) in
      let e : o + h - 2 + 1 ≡ o + h - 1 = omega arith in
      let past = skip_past s (o + h) in' (o + h - 1) (omega arith) in
      let there = ends_step s (o + h) in' ts (o + h - 1) (omega arith) (rw e at (comes_to (o + h - 2) (omega arith) (omega arith) low)) in
      sym (ends_end s (o + h) in' ts (stop_of s (varint_at s (o + h - 1))) (omega arith) there) ∙ sym is

  -- and to the start of the run that its last byte is in
  pub ends_at_run : 2 ≤ h → (run : High) → get_or s o 0 < 128 → Holds s (o + h - 1) run → Ends s (header_types s o h (o + 1)) run.from (o + h)
  ends_at_run two run low r =
      by_order o run.from
      (λ behind.
      let e : run.from - 1 + 1 ≡ run.from = omega arith in
      let b = r.is.low_before (omega (arith, r.from_there, r.to_there)) (omega arith) in
      rw e at (comes_to (run.from - 1) (omega arith) (omega (arith, r.from_there)) b))
      (λ before. let bad = r.is.high o (omega arith) (omega (arith, r.to_there)) in absurd (omega arith))

-- ---- how many types there may be

-- a header of other than one to nine bytes a type has other than so many
pub unfit : (s : List ℕ) (o h n : ℕ) → 2 ≤ h → o + h ≤ length s → (n < h → h - 1 ≤ 9 * n → ⊥) → MayHave (header_types s o h (o + 1)) n false
unfit s o h n two in' none w e = unfitting s (o + h) in' h (o + 1) n (omega arith) (omega arith) (λ a b. none (omega arith) (omega arith)) w e

-- types of one byte each
module _ (s : List ℕ) (o h n : ℕ) (room : n < h) (in' : o + h ≤ length s) (low : AllLow s (o + 1) (o + 1 + n) true) where
  skipped_low : (k : ℕ) → k ≤ n → Skipped s (o + h) (header_types s o h (o + 1)) (o + 1 + k) k
  skipped_low zero le = let e : o + 1 + 0 ≡ o + 1 = omega arith in rw e (skipped_start s (o + h) in' h (o + 1) (omega arith))
  skipped_low (suc k) le =
      let v : stop_of s (varint_at s (o + 1 + k)) ≡ o + 1 + suc k = ap (stop_of s) (varint_low s (o + 1 + k) (omega arith) (low (o + 1 + k) (omega arith) (omega arith))) ∙ omega arith in
      let e : k + 1 ≡ suc k = omega arith in
      rw (v, e) at (skipped_step s (o + h) in' (header_types s o h (o + 1)) (o + 1 + k) k (omega arith) (skipped_low k (omega arith)))

  -- as many as hints, and one more behind them
  pub all_and_more : o + 1 + n < o + h → MayHave (header_types s o h (o + 1)) n false
  all_and_more lt w e = skipped_more s (o + h) in' (header_types s o h (o + 1)) (o + 1 + n) n lt (skipped_low n (omega arith)) w e

-- bytes between two places that the library's test of all finds low
each_low : (xs : List ℕ) (i : ℕ) → i < length xs → list_all (λ b. ltb b 128) xs ≡ true → get_or xs i 0 < 128
each_low xs i lt all =
    by_test (ltb (get_or xs i 0) 128) (λ t. ltb-true _ _ t) (λ f. absurd (false≢true (sym (list_all_at (λ b. ltb b 128) xs i 0 lt f) ∙ all)))

pub low_between : (s : List ℕ) (from to : ℕ) (r : Bool) → to ≤ length s → r ≡ list_all (λ b. ltb b 128) (take (to - from) (drop from s)) → AllLow s from to r
low_between s from to false in' e = tt
low_between s from to true in' e =
    λ q lo hi.
    let n : q - from < to - from = omega arith in
    let at : from + (q - from) ≡ q = omega arith in
    let long : q - from < length (take (to - from) (drop from s)) = simp (length-take, length-drop) (omega arith) in
    rw (get_or-take (to - from) (drop from s) (q - from) 0 n, get_or-drop, at) at (each_low (take (to - from) (drop from s)) (q - from) long (sym e))
