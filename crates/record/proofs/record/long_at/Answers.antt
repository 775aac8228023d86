-- `record::record::long_at` meets its contract: a signed word of 64 bits is the two's complement of its bits.
-- Assumes nothing.
use Rattle.std.proofs.Common.{sym, ap, ◌∙◌}
use mir.Syntax.{w64}
use mir.Facts.{to_z-of_z}
use Rattle.record.specs.Value.{twos_complement}
use Rattle.record.proofs.Numbers.{signed_word}
use Rattle.record.proofs.record.long_at.Goals as goal

pub returns : goal.returns
returns c =
    to_z-of_z {w = w64} (record { sfits = c.cast_signed.type_inv })
    ∙ c.cast_signed.ensures
    ∙ signed_word _ c.big_endian.ensures.small
    ∙ ap (twos_complement 64) c.big_endian.ensures.value
