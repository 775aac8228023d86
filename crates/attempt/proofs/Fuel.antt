-- The bound on the types of a header never cuts them short: any bound from its length on gives the same types, places and
-- mark.
-- Assumes nothing.
use Rattle.std.specs.Prelude.{None, Some}
use Prim.Native.Nat.{ℕ, zero, suc, ◌+◌, ◌≤◌, ◌<◌}
use mathlib.Core.Path.{◌≡◌, refl, sym, ap, ◌∙◌}
use mathlib.Core.Bool.{Bool, ◌||◌}
use mathlib.Core.List.{List, ◌++◌}
use native.Mathlib.Omega.{arith}
use Rattle.attempt.specs.Attempt.{Types, kind, types_from}
use Rattle.attempt.proofs.Types.{types_step, types_cut, types_end_lem}
use Rattle.record.proofs.Laws.{varint_reach}
use Rattle.record.proofs.Numbers.{by_order}
use Rattle.record.proofs.Types.{places_step, places_cut, places_end, padded_step, padded_cut, padded_end}
use Rattle.record.specs.Places.{varint_places, type_places, types_padded}
use Rattle.record.specs.Varint.{varint_at}
use Rattle.record.specs.Varint.{Varint}

module _ (s : List ℕ) (stop : ℕ) where
  -- what reading from `at` on gives with one bound it gives with the other
  abbrev Same : ℕ → ℕ → ℕ → Type 0
  Same f g at =
      (types_from f s at stop ≡ types_from g s at stop) × (type_places f s at stop ≡ type_places g s at stop) × (types_padded f s at stop ≡ types_padded g s at stop)

  same_end : (f g at : ℕ) → stop ≤ at → Same f g at
  same_end f g at ge = (
    types_end_lem f s at stop ge ∙ sym (types_end_lem g s at stop ge),
    places_end f s at stop ge ∙ sym (places_end g s at stop ge),
    padded_end f s at stop ge ∙ sym (padded_end g s at stop ge),
  )

  any_fuel : (f g at : ℕ) → stop ≤ at + f → stop ≤ at + g → Same f g at
  any_fuel zero g at h k = same_end 0 g at (omega arith)
  any_fuel (suc f) zero at h k = same_end (suc f) 0 at (omega arith)
  any_fuel (suc f) (suc g) at h k =
      by_order at stop (λ lt. go lt (varint_at s at) refl (λ c p q. any_fuel f g c p q)) (λ ge. same_end (suc f) (suc g) at ge)
    where
      go : at < stop → (v : Varint) → varint_at s at ≡ v → ((c : ℕ) → stop ≤ c + f → stop ≤ c + g → Same f g c) → Same (suc f) (suc g) at
      go lt (Some (t, c)) e rest =
          let past = (varint_reach s at).whole t c e in
          let r = rest c.at (omega arith) (omega arith) in (
            types_step f s at stop t c lt e ∙ ap (λ (ts : Types). kind t ts) r.0 ∙ sym (types_step g s at stop t c lt e),
            places_step f s at stop t c lt e ∙ ap (λ (ps : List ℕ). varint_places s at ++ ps) r.1 ∙ sym (places_step g s at stop t c lt e),
            padded_step f s at stop t c lt e ∙ ap (λ (b : Bool). c.padded || b) r.2 ∙ sym (padded_step g s at stop t c lt e),
          )
      go lt None e rest = (
        types_cut f s at stop lt e ∙ sym (types_cut g s at stop lt e),
        places_cut f s at stop lt e ∙ sym (places_cut g s at stop lt e),
        padded_cut f s at stop lt e ∙ sym (padded_cut g s at stop lt e),
      )

-- THE LAWS, of a header of h bytes at o
module _ (s : List ℕ) (o h from g : ℕ) (past : o ≤ from) (enough : h ≤ g) where
  pub all_types : types_from g s from (o + h) ≡ types_from h s from (o + h)
  all_types = (any_fuel s (o + h) g h from (omega arith) (omega arith)).0

  pub all_type_places : type_places g s from (o + h) ≡ type_places h s from (o + h)
  all_type_places = (any_fuel s (o + h) g h from (omega arith) (omega arith)).1

  pub all_types_padded : types_padded g s from (o + h) ≡ types_padded h s from (o + h)
  all_types_padded = (any_fuel s (o + h) g h from (omega arith) (omega arith)).2
