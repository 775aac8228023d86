-- What the writers of text ask and give.
-- Assumes nothing.
use Rattle.std.specs.Prelude.{ℕ, ◌+◌, ◌≤◌, ◌≡◌, List, length}
use Rattle.std.proofs.lemmas.List.Edits.{sets}
use Rattle.digits.specs.Digits.{most_digits}
use Rattle.digits.specs.declared.inner.Text.{Text}

-- the text was written at a place of a buffer, and r is the place behind it
pub record Put (before : List ℕ) (at : ℕ) (text after : List ℕ) (r : ℕ) : Type 0 where
  pub written : after ≡ sets before at text
  pub ends : r ≡ at + length text

-- n more bytes fit
abbrev pub Room : Text → ℕ → Type 0
Room t n = t.len + n ≤ length t.bytes.now

-- nothing is written to a buffer yet
pub record Starts (buffer : List ℕ) (t : Text) : Type 0 where
  pub bytes : t.bytes.now ≡ buffer
  pub len : t.len ≡ 0

-- the text was written behind what was written before, in the same buffer
pub record Puts (before : Text) (text : List ℕ) (after : Text) : Type 0 where
  pub put : Put before.bytes.now before.len text after.bytes.now after.len
  pub room : length after.bytes.now ≡ length before.bytes.now
  pub same_buffer : after.bytes.ghost_name ≡ before.bytes.ghost_name

-- the most bytes of a number with the byte that ends or parts it
abbrev pub most_field : ℕ
most_field = most_digits + 1
