-- Types one behind the other: the places that reading them looks at, and whether one is padded.
-- Assumes nothing.
use Rattle.std.specs.Prelude.{None, Some}
use Prim.Native.Nat.{ℕ, zero, suc, ◌≤◌, ◌<◌}
use mathlib.Core.Path.{◌≡◌, refl, sym, ap, ◌∙◌}
use mathlib.Core.Bool.{Bool, true, false, ◌||◌, or_assoc, or-false, or-true}
use mathlib.Core.List.{List, [], ◌++◌}
use borrow.Author.Tests.{lt-ltb, le-ltb}
use Rattle.record.specs.Places.{varint_places, type_places, types_padded}
use Rattle.record.specs.Varint.{varint_at}
use Rattle.record.specs.declared.varint.Cursor.{Cursor}

module _ (f : ℕ) (s : List ℕ) (at stop : ℕ) where
  pub places_step : (t : ℕ) (c : Cursor) → at < stop → varint_at s at ≡ Some (t, c) → type_places (suc f) s at stop ≡ varint_places s at ++ type_places f s c.at stop
  unfolding type_places
  places_step t c h e = simp (lt-ltb at stop h, e)

  pub places_cut : at < stop → varint_at s at ≡ None → type_places (suc f) s at stop ≡ varint_places s at ++ []
  unfolding type_places
  places_cut h e = simp (lt-ltb at stop h, e)

  pub padded_step : (t : ℕ) (c : Cursor) → at < stop → varint_at s at ≡ Some (t, c) → types_padded (suc f) s at stop ≡ (c.padded || types_padded f s c.at stop)
  unfolding types_padded
  padded_step t c h e = simp (lt-ltb at stop h, e)

  pub padded_cut : at < stop → varint_at s at ≡ None → types_padded (suc f) s at stop ≡ false
  unfolding types_padded
  padded_cut h e = simp (lt-ltb at stop h, e)

pub places_none : (s : List ℕ) (at stop : ℕ) → type_places 0 s at stop ≡ []
unfolding type_places
places_none s at stop = refl

pub padded_none : (s : List ℕ) (at stop : ℕ) → types_padded 0 s at stop ≡ false
unfolding types_padded
padded_none s at stop = refl

pub places_end : (f : ℕ) (s : List ℕ) (at stop : ℕ) → stop ≤ at → type_places f s at stop ≡ []
unfolding type_places
places_end zero s at stop h = refl
places_end (suc f) s at stop h = simp (le-ltb at stop h)

pub padded_end : (f : ℕ) (s : List ℕ) (at stop : ℕ) → stop ≤ at → types_padded f s at stop ≡ false
unfolding types_padded
padded_end zero s at stop h = refl
padded_end (suc f) s at stop h = simp (le-ltb at stop h)

-- ---- p is the mark of all, and `mark` that of those that have been read

-- a mark that is set where one is padded, and else left as it was
pub mark_set : (mark b : Bool) → b ≡ true → (mark || b) ≡ true
mark_set mark b e = ap (λ x. mark || x) e ∙ or-true mark

pub mark_left : (mark b : Bool) → b ≡ false → (mark || b) ≡ mark
mark_left mark b e = ap (λ x. mark || x) e ∙ or-false mark

module _ (f : ℕ) (s : List ℕ) (at stop : ℕ) where
  -- THE LAW: one more was read,
  pub marked_step : (t : ℕ) (c : Cursor) (p mark : Bool) → at < stop → varint_at s at ≡ Some (t, c) → p ≡ (mark || types_padded (suc f) s at stop)
      → p ≡ (mark || c.padded || types_padded f s c.at stop)
  marked_step t c p mark h e m =
      m ∙ (ap (λ b. mark || b) (padded_step f s at stop t c h e) ∙ sym (or_assoc mark c.padded (types_padded f s c.at stop)))

  -- and none is left
  pub marked_end : (p mark : Bool) → types_padded f s at stop ≡ false → p ≡ (mark || types_padded f s at stop) → p ≡ mark
  marked_end p mark none m = m ∙ (ap (λ b. mark || b) none ∙ or-false mark)
