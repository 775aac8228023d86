-- `tagged::inner::bits_of` meets its contract: a signed word's bits are its word.
-- Assumes nothing.
use Rattle.std.proofs.Common.{◌≡◌, ℤ, pos, negsuc, refl, ap, ◌∙◌, arith, rules}
use mir.Syntax.{w64}
use mir.Val.{of_z}
use mir.Facts.{to_z-of_z}
use Rattle.tagged.specs.Tagged.{word_of}
use Rattle.tagged.proofs.inner.bits_of.Goals as goal

bits_word : (z : ℤ) → of_z w64 z ≡ word_of z
unfolding word_of
bits_word (pos n) = refl
bits_word (negsuc n) = omega arith

pub returns-in-Int : goal.returns-in-Int
returns-in-Int c =
    rw c.in-Int.is
    (c.cast_unsigned.ensures ∙ ap (of_z w64) (to_z-of_z {w = w64} {z = c.in-Int.v} (search rules)) ∙ bits_word c.in-Int.v)
