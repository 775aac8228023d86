-- Two slices of one length that agree at the header places of an attempt at the first: it is the same attempt, and reads at the same places.
-- Assumes nothing.
use Rattle.std.specs.Prelude.{None, Some}
use Prim.Native.Nat.{ℕ, zero, suc, ◌+◌, ◌<◌}
use mathlib.Core.Path.{◌≡◌, refl, sym, ◌∙◌}
use mathlib.Core.Bool.{Bool, true, false, cond}
use mathlib.Core.List.{List, [], ◌∷◌, ◌++◌}
use lib.ListN.{length}
use Rattle.attempt.specs.Attempt.{types_from, miss, header_fits, judged_whole, attempt_with, attempt_at}
use Rattle.attempt.specs.Places.{places_behind, attempt_places}
use Rattle.attempt.proofs.Types.{types_step, types_cut, types_end_lem, types_none}
use Rattle.record.proofs.Laws.{varint_agree, places_agree}
use Rattle.record.proofs.Numbers.{by_order}
use Rattle.record.proofs.Types.{places_step, places_cut, places_end, places_none, padded_step, padded_cut, padded_end, padded_none}
use Rattle.record.specs.Places.{AgreeAt, varint_places, type_places, types_padded, header_padded}
use Rattle.record.specs.Varint.{varint_at}
use Rattle.record.specs.Varint.{Varint}

module _ (x y : List ℕ) (same : length x ≡ length y) where
  pub agree_split : (a b : List ℕ) → AgreeAt x y (a ++ b) → AgreeAt x y a × AgreeAt x y b
  agree_split [] b h = (tt, h)
  agree_split (p ∷ a) b h = let r = agree_split a b h.1 in ((h.0, r.0), r.1)

  -- ---- the same types, the same attempt, and the same places

  abbrev TypesSame : ℕ → ℕ → ℕ → Type 0
  TypesSame f at stop =
      (types_from f y at stop ≡ types_from f x at stop) × (type_places f y at stop ≡ type_places f x at stop) × (types_padded f y at stop ≡ types_padded f x at stop)

  pub types_same : (f at stop : ℕ) → AgreeAt x y (type_places f x at stop) → TypesSame f at stop
  types_same zero at stop a = (
    types_none y at stop ∙ sym (types_none x at stop),
    places_none y at stop ∙ sym (places_none x at stop),
    padded_none y at stop ∙ sym (padded_none x at stop),
  )
  types_same (suc f) at stop a =
      by_order at stop (λ lt. go lt (varint_at x at) refl (λ k b. types_same f k stop b))
      (λ ge. (
        types_end_lem (suc f) y at stop ge ∙ sym (types_end_lem (suc f) x at stop ge),
        places_end (suc f) y at stop ge ∙ sym (places_end (suc f) x at stop ge),
        padded_end (suc f) y at stop ge ∙ sym (padded_end (suc f) x at stop ge),
      ))
    where
      go : at < stop → (v : Varint) → varint_at x at ≡ v → ((k : ℕ) → AgreeAt x y (type_places f x k stop) → TypesSame f k stop) → TypesSame (suc f) at stop
      go lt (Some (t, c)) e rest =
          let p = places_step f x at stop t c lt e in
          let s = agree_split (varint_places x at) (type_places f x c.at stop) (rw p at a) in
          let e' = varint_agree x y same at s.0 ∙ e in
          let r = rest c.at s.1 in (
            types_step f y at stop t c lt e' ∙ rw r.0 (sym (types_step f x at stop t c lt e)),
            places_step f y at stop t c lt e' ∙ rw (places_agree x y same at s.0, r.1) (sym p),
            padded_step f y at stop t c lt e' ∙ rw r.2 (sym (padded_step f x at stop t c lt e)),
          )
      go lt None e rest =
          let p = places_cut f x at stop lt e in
          let s = agree_split (varint_places x at) [] (rw p at a) in
          let e' = varint_agree x y same at s.0 ∙ e in (
            types_cut f y at stop lt e' ∙ sym (types_cut f x at stop lt e),
            places_cut f y at stop lt e' ∙ rw (places_agree x y same at s.0) (sym p),
            padded_cut f y at stop lt e' ∙ sym (padded_cut f x at stop lt e),
          )

  behind_same : (hints : List ℕ) (o : ℕ) (v : Varint) → AgreeAt x y (places_behind x o v)
      → (attempt_with y hints o v ≡ attempt_with x hints o v) × (places_behind y o v ≡ places_behind x o v)
  behind_same hints o (Some (h, c)) a = rw (← same) (go (header_fits (length x) o h) a)
    where
      go : (b : Bool) → AgreeAt x y (cond b (type_places h x c.at (o + h)) [])
          → (cond b (judged_whole (length x) hints o h (header_padded h y c (o + h)) (types_from h y c.at (o + h))) miss
          ≡ cond b (judged_whole (length x) hints o h (header_padded h x c (o + h)) (types_from h x c.at (o + h))) miss)
          × (cond b (type_places h y c.at (o + h)) [] ≡ cond b (type_places h x c.at (o + h)) [])
      go true a = let r = types_same h c.at (o + h) a in (rw (r.0, r.2), r.1)
      go false a = (refl, refl)
  behind_same hints o None a = (refl, refl)

  pub attempt_same : (hints : List ℕ) (o : ℕ) → AgreeAt x y (attempt_places x o) → attempt_at y hints o ≡ attempt_at x hints o
  unfolding attempt_at attempt_places
  attempt_same hints o a =
      let s = agree_split (varint_places x o) (places_behind x o (varint_at x o)) a in
      rw (varint_agree x y same o s.0) (behind_same hints o (varint_at x o) s.1).0

  pub attempt_places_same : (o : ℕ) → AgreeAt x y (attempt_places x o) → attempt_places y o ≡ attempt_places x o
  unfolding attempt_places
  attempt_places_same o a =
      let s = agree_split (varint_places x o) (places_behind x o (varint_at x o)) a in
      rw (varint_agree x y same o s.0, places_agree x y same o s.0, (behind_same [] o (varint_at x o) s.1).1)
