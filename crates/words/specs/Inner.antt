-- What the code carries besides the definitions: how far a loop over a run came, and the pieces from a place on.
-- Assumes nothing.
use Rattle.std.specs.Prelude.{ℕ, ◌+◌, ◌-◌, ◌≤◌, ◌<◌, ◌≡◌, Bool, true, cond, List, [], ◌∷◌, leb, length, take, drop, get_or}
use Rattle.words.specs.Runs.{take_while, drop_while_end}
use Rattle.words.specs.Words.{behind_word, pieces}

-- where the answer is true, n bytes from `at` on pass the test
abbrev pub AllIn : (ℕ → Bool) → List ℕ → ℕ → ℕ → Bool → Type 0
AllIn p s at n answer = answer ≡ true → (k : ℕ) → k < n → p (get_or s (at + k) 0) ≡ true

-- the first n bytes are of a run, so what is left of it decides
pub record Leads (p : ℕ → Bool) (s : List ℕ) (n : ℕ) : Type 0 where
  pub within : n ≤ length s
  pub rest : length (take_while p s) ≡ n + length (take_while p (drop n s))

-- where a list ends without the run at its end
pub record Kept (p : ℕ → Bool) (s : List ℕ) (e : ℕ) : Type 0 where
  pub within : e ≤ length s
  pub kept : take e s ≡ drop_while_end p s

-- where the first word ends
pub record WordEnds (s : List ℕ) (e : ℕ) : Type 0 where
  pub within : e ≤ length s
  pub behind : drop e s ≡ behind_word s

-- the pieces from `at` on; behind the last there are none
unfoldable pub pieces_from : List ℕ → ℕ → List (List ℕ)
pieces_from s at = cond (leb at (length s)) (pieces (drop at s)) []

-- where the piece that starts at `at` ends
pub record PieceEnds (s : List ℕ) (at e : ℕ) : Type 0 where
  pub from : at ≤ e
  pub within : e ≤ length s
  pub next : pieces_from s at ≡ take (e - at) (drop at s) ∷ pieces_from s (e + 1)
