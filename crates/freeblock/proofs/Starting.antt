-- One block: the first start of its payload at which a row stands.
-- Assumes nothing.
use Prim.Native.Nat.{ℕ, zero, suc, ◌+◌, ◌≤◌, ◌<◌, min}
use mathlib.Core.Path.{◌≡◌, sym, ◌∙◌}
use mathlib.Core.List.{List}
use native.Mathlib.Numerals.{add-one}
use native.Mathlib.Omega.{arith}
use lib.ListN.{length, drop}
use Rattle.attempt.specs.Attempt.{Found, miss, hit, attempt_at}
use Rattle.freeblock.specs.Freeblock.{nowhere, start_at, most_starts, first_from, first_start}

-- ---- starts one after the other: those from v on decide
pub record Looks (payload hints : List ℕ) (starts v : ℕ) : Type 0 where
  pub left : ℕ
  pub sum : v + left ≡ starts
  pub is : first_from left payload hints v ≡ first_start payload hints

module _ (payload hints : List ℕ) (starts : ℕ) where
  pub looks_start : starts ≡ min most_starts (length payload) → Looks payload hints starts 0
  unfolding first_start
  looks_start e = record { left = starts; sum = omega arith; is = rw e }

  module _ (v : ℕ) (w : Looks payload hints starts v) where
    pub looks_hit : (x : Found) → v < starts → attempt_at (drop v payload) hints 0 ≡ hit x → first_start payload hints ≡ start_at v x
    unfolding first_from
    looks_hit x h e = go w.left w.sum w.is
      where
        go : (k : ℕ) → v + k ≡ starts → first_from k payload hints v ≡ first_start payload hints → first_start payload hints ≡ start_at v x
        go zero s f = absurd (omega arith)
        go (suc k) s f = sym f ∙ rw e

    pub looks_more : v < starts → attempt_at (drop v payload) hints 0 ≡ miss → Looks payload hints starts (v + 1)
    unfolding first_from
    looks_more h e = go w.left w.sum w.is
      where
        go : (k : ℕ) → v + k ≡ starts → first_from k payload hints v ≡ first_start payload hints → Looks payload hints starts (v + 1)
        go zero s f = absurd (omega arith)
        go (suc k) s f = record { left = k; sum = omega arith; is = rw (add-one v) (rw e at f) }

    pub looks_end : starts ≤ v → first_start payload hints ≡ nowhere
    unfolding first_from
    looks_end h = let z : w.left ≡ 0 = omega (arith, w.sum) in sym w.is ∙ rw z
