-- Types one after the other: what was read, with what is still to come, is the whole; where reading ends; and reading them again.
-- Assumes nothing.
use Rattle.std.specs.Prelude.{None, Some}
use Prim.Native.Nat.{ℕ, zero, suc, ◌+◌, ◌≤◌, ◌<◌}
use mathlib.Core.Path.{◌≡◌, refl, sym, ap, ◌∙◌}
use mathlib.Core.Bool.{Bool, false, ◌||◌}
use mathlib.Core.List.{List, [], ◌∷◌, ◌++◌}
use native.Mathlib.Omega.{arith}
use borrow.Author.Tests.{lt-ltb, le-ltb}
use lib.ListN.{length, length-append}
use Rattle.modes.specs.Found.{Types, cut, read, type_before, types_from}
use Rattle.modes.specs.Inner.{WholeIs, kinds_at}
use Rattle.record.proofs.Laws.{varint_lies}
use Rattle.record.proofs.Numbers.{by_order}
use Rattle.record.proofs.Types.{padded_none, padded_end, marked_step, marked_end}
use Rattle.record.specs.Places.{types_padded}
use Rattle.record.specs.Varint.{varint_at}
use Rattle.record.specs.declared.varint.Cursor.{Cursor}
use Rattle.record.specs.Varint.{Varint}

-- ---- reading on
module _ (most : ℕ) (s : List ℕ) (at stop : ℕ) where
  pub types_step : (t : ℕ) (c : Cursor) → at < stop → varint_at s at ≡ Some (t, c) → types_from (suc most) s at stop ≡ type_before t (types_from most s c.at stop)
  unfolding types_from
  types_step t c h e = simp (lt-ltb at stop h, e)

  pub types_cut : at < stop → varint_at s at ≡ None → types_from (suc most) s at stop ≡ cut
  unfolding types_from
  types_cut h e = simp (lt-ltb at stop h, e)

pub types_none : (s : List ℕ) (at stop : ℕ) → types_from 0 s at stop ≡ read [] at
unfolding types_from
types_none s at stop = refl

pub types_end_lem : (most : ℕ) (s : List ℕ) (at stop : ℕ) → stop ≤ at → types_from most s at stop ≡ read [] at
unfolding types_from
types_end_lem zero s at stop h = refl
types_end_lem (suc most) s at stop h = simp (le-ltb at stop h)

module _ (n : ℕ) (s : List ℕ) (at : ℕ) where
  pub kinds_step : (t : ℕ) (c : Cursor) → varint_at s at ≡ Some (t, c) → kinds_at (suc n) s at ≡ t ∷ kinds_at n s c.at
  unfolding kinds_at
  kinds_step t c e = rw e

  pub kinds_cut : varint_at s at ≡ None → kinds_at (suc n) s at ≡ []
  unfolding kinds_at
  kinds_cut e = rw e

pub kinds_none : (s : List ℕ) (at : ℕ) → kinds_at 0 s at ≡ []
unfolding kinds_at
kinds_none s at = refl

-- ---- what was read
abbrev types_before : List ℕ → Types → Types
types_before [] w = w
types_before (t ∷ ts) w = type_before t (types_before ts w)

before_cut : (ts : List ℕ) → types_before ts cut ≡ cut
before_cut [] = refl
before_cut (t ∷ ts) = rw (before_cut ts)

before_read : (ts : List ℕ) (end : ℕ) → types_before ts (read [] end) ≡ read ts end
before_read [] end = refl
before_read (t ∷ ts) end = rw (before_read ts end)

before_one : (ts : List ℕ) (t : ℕ) (w : Types) → types_before (ts ++ (t ∷ [])) w ≡ types_before ts (type_before t w)
before_one [] t w = refl
before_one (u ∷ ts) t w = rw (before_one ts t w)

never : {C : Type 0} {ts : List ℕ} {end : ℕ} → cut ≡ read ts end → C
never e = let z : ◌≡◌ {A = ℕ} 0 1 = cc in absurd (omega arith)

first_of : (t : ℕ) (w : Types) (ts : List ℕ) (end : ℕ) → type_before t w ≡ read ts end → (us : List ℕ) × (w ≡ read us end) × (ts ≡ t ∷ us)
first_of t cut ts end e = never e
first_of t (read us end') ts end e = let z : end' ≡ end = cc in (us, rw z, cc)

first_ones : (done : List ℕ) (w : Types) (ts : List ℕ) (end : ℕ) → types_before done w ≡ read ts end → (us : List ℕ) × (ts ≡ done ++ us)
first_ones [] w ts end e = (ts, refl)
first_ones (t ∷ done) w ts end e =
    let f = first_of t (types_before done w) ts end e in
    let r = first_ones done w f.0 end f.1 in
    (r.0, f.2 ∙ ap (λ (l : List ℕ). t ∷ l) r.1)

-- of the types `whole`, at most `most`, with the mark p, those of the list `done` were read, up to `at`, with the mark `padded`
pub record SoFar (s : List ℕ) (stop : ℕ) (whole : Types) (p : Bool) (most at : ℕ) (padded : Bool) (done : List ℕ) : Type 0 where
  pub left : ℕ
  pub sum : length done + left ≡ most
  pub is : whole ≡ types_before done (types_from left s at stop)
  pub marks : p ≡ (padded || types_padded left s at stop)

pub so_start : (s : List ℕ) (at stop most : ℕ) → SoFar s stop (types_from most s at stop) (types_padded most s at stop) most at false []
so_start s at stop most = record { left = most; sum = omega arith; is = refl; marks = refl }

module _ (s : List ℕ) (stop : ℕ) (whole : Types) (p : Bool) (most at : ℕ) (padded : Bool) (done : List ℕ) (w : SoFar s stop whole p most at padded done) where
  module _ (h : length done < most) (below : at < stop) where
    some_left : (k : ℕ) × (w.left ≡ suc k)
    some_left = go w.left w.sum
      where
        go : (l : ℕ) → length done + l ≡ most → (k : ℕ) × (l ≡ suc k)
        go zero e = absurd (omega arith)
        go (suc k) e = (k, refl)

    pub so_on : (t : ℕ) (c : Cursor) → varint_at s at ≡ Some (t, c) → SoFar s stop whole p most c.at (padded || c.padded) (done ++ (t ∷ []))
    so_on t c e =
        let k = some_left in
        record {
          left = k.0;
          sum = simp length-append (omega (arith, k.1, w.sum));
          is = rw (k.1, types_step k.0 s at stop t c below e) at w.is ∙ sym (before_one done t (types_from k.0 s c.at stop));
          marks = marked_step k.0 s at stop t c p padded below e (rw k.1 at w.marks);
        }

    pub so_cut : varint_at s at ≡ None → whole ≡ cut
    so_cut e = let k = some_left in rw (k.1, types_cut k.0 s at stop below e) at w.is ∙ before_cut done

  -- no place is left, or no type
  pub so_past : stop ≤ at → (whole ≡ read done at) × (p ≡ padded)
  so_past h = (
    rw (types_end_lem w.left s at stop h) at w.is ∙ before_read done at,
    marked_end w.left s at stop p padded (padded_end w.left s at stop h) w.marks,
  )

  pub so_all : most ≤ length done → (whole ≡ read done at) × (p ≡ padded)
  so_all h =
      let z : w.left ≡ 0 = omega (arith, w.sum) in
      (rw (z, types_none s at stop) at w.is ∙ before_read done at, marked_end 0 s at stop p padded (padded_none s at stop) (rw z at w.marks))

  -- THE LAW: if there are types in the end, these are the first of them
  pub so_first : (ts : List ℕ) (end : ℕ) → whole ≡ read ts end → (us : List ℕ) × (ts ≡ done ++ us)
  so_first ts end e = first_ones done (types_from w.left s at stop) ts end (sym w.is ∙ e)

-- so many were read
pub record Counted (s : List ℕ) (stop : ℕ) (whole : Types) (p : Bool) (most at : ℕ) (padded : Bool) (count : ℕ) : Type 0 where
  pub done : List ℕ
  pub counts : length done ≡ count
  pub so : SoFar s stop whole p most at padded done

pub counted_start : (s : List ℕ) (at stop most : ℕ) → Counted s stop (types_from most s at stop) (types_padded most s at stop) most at false 0
counted_start s at stop most = record { done = []; counts = refl; so = so_start s at stop most }

module _ (s : List ℕ) (stop : ℕ) (whole : Types) (p : Bool) (most at : ℕ) (padded : Bool) (count : ℕ) (w : Counted s stop whole p most at padded count) where
  module _ (h : count < most) (below : at < stop) where
    more : length w.done < most
    more = rw w.counts h

    pub counted_on : (t : ℕ) (c : Cursor) → varint_at s at ≡ Some (t, c) → Counted s stop whole p most c.at (padded || c.padded) (count + 1)
    counted_on t c e =
        record { done = w.done ++ (t ∷ []); counts = simp length-append (omega (arith, w.counts)); so = so_on s stop whole p most at padded w.done w.so more below t c e }

    pub counted_cut : varint_at s at ≡ None → whole ≡ cut
    counted_cut e = so_cut s stop whole p most at padded w.done w.so more below e

  ended : (whole ≡ read w.done at) × (p ≡ padded) → WholeIs whole p count at padded
  ended e = record { types = w.done; is = e.0; counts = w.counts; marks = e.1 }

  pub counted_past : stop ≤ at → WholeIs whole p count at padded
  counted_past h = ended (so_past s stop whole p most at padded w.done w.so h)

  pub counted_all : most ≤ count → WholeIs whole p count at padded
  counted_all h = ended (so_all s stop whole p most at padded w.done w.so (rw w.counts h))

-- ---- where reading ends, and how many there are
pub record Typed (s : List ℕ) (most at : ℕ) (ts : List ℕ) (end : ℕ) : Type 0 where
  pub on : at ≤ end
  pub inside : end ≤ length s
  pub few : length ts ≤ most
  -- they stand one behind the other
  pub again : kinds_at (length ts) s at ≡ ts

none_typed : (most : ℕ) (s : List ℕ) (at : ℕ) (ts : List ℕ) (end : ℕ) → at ≤ length s → read [] at ≡ read ts end → Typed s most at ts end
none_typed most s at ts end h e =
    let a : at ≡ end = cc in
    let b : [] ≡ ts = cc in
    rw (← b) (record { on = omega arith; inside = omega arith; few = omega arith; again = kinds_none s at })

-- THE LAW: types that were read
pub typed : (most : ℕ) (s : List ℕ) (at stop : ℕ) (ts : List ℕ) (end : ℕ) → at ≤ length s → types_from most s at stop ≡ read ts end → Typed s most at ts end
typed zero s at stop ts end h e = none_typed 0 s at ts end h (sym (types_none s at stop) ∙ e)
typed (suc most) s at stop ts end h e =
    by_order at stop
    (λ lt. go lt (varint_at s at) refl (λ next us in' f. typed most s next stop us end in' f))
    (λ ge. none_typed (suc most) s at ts end h (sym (types_end_lem (suc most) s at stop ge) ∙ e))
  where
    go : at < stop → (v : Varint) → varint_at s at ≡ v
        → ((next : ℕ) (us : List ℕ) → next ≤ length s → types_from most s next stop ≡ read us end → Typed s most next us end) → Typed s (suc most) at ts end
    go lt None v rest = never (sym (types_cut most s at stop lt v) ∙ e)
    go lt (Some (t, c)) v rest =
        let z = varint_lies s at t c v in
        let f = first_of t (types_from most s c.at stop) ts end (sym (types_step most s at stop t c lt v) ∙ e) in
        let r = rest c.at f.0 z.inside f.1 in
        rw f.2
        (record {
          on = omega (arith, z.past, r.on);
          inside = r.inside;
          few = omega (arith, r.few);
          again = kinds_step (length f.0) s at t c v ∙ rw r.again;
        })
