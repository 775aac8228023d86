-- What the code carries between its own functions; nothing that a caller has to believe.
-- Assumes nothing.
use Rattle.std.specs.Prelude.{ℕ, ◌<◌, ◌≡◌, List, length, drop, Option, Some, None}
use Rattle.attempt.specs.Attempt.{attempt_at}
use Rattle.attempt.specs.Inner.{found_at, HitIs}
use Rattle.attempt.specs.Places.{attempt_places}
use Rattle.attempt.specs.declared.inner.Find.{Find}
use Rattle.freeblock.specs.Freeblock.{nowhere, start_at, first_start, freeblocks}

-- a chain that came to its end has so many blocks
abbrev pub CountedIs : List ℕ → ℕ → Option ℕ → Type 0
CountedIs page head (Some n) = n ≡ length (freeblocks page head)
CountedIs page head None = Unit

-- a start was found, or there is none
pub record StartIs (payload hints : List ℕ) (v : ℕ) (x : Find) : Type 0 where
  pub inside : v < length payload
  pub is : first_start payload hints ≡ start_at v (found_at (drop v payload) 0 x)
  pub found : HitIs (drop v payload) hints 0 (attempt_at (drop v payload) hints 0) (attempt_places (drop v payload) 0) x

abbrev pub Starts : List ℕ → List ℕ → Option (ℕ × Find) → Type 0
Starts payload hints (Some (v, x)) = StartIs payload hints v x
Starts payload hints None = first_start payload hints ≡ nowhere
