-- `sheet::row::words` meets its contract: each word is what the definition of that word says.
-- Assumes nothing.
use mathlib.Core.Path.{◌≡◌, refl}
use mir.Val.{bool_byte}
use Rattle.std.specs.Prelude.{None, Some}
use Rattle.std.specs.Option.{is_some, unwrap_or}
use Rattle.record.proofs.Numbers.{bool_word}
use Rattle.sheet.specs.Row.{RowId, presence, id_bits, row_words}
use Rattle.sheet.proofs.row.words.Goals as goal

present : (id : RowId) → bool_byte (is_some id) ≡ presence id
present None = refl
present (Some bits) = refl

bits_or : (id : RowId) → unwrap_or id 0 ≡ id_bits id
bits_or None = refl
bits_or (Some bits) = refl

pub returns : goal.returns
unfolding row_words
returns c =
    rw (
      c.is_some.ensures,
      present c.args.row.id,
      c.unwrap_or.ensures,
      bits_or c.args.row.id,
      c.code.ensures,
      c.percent.ensures,
      c.f32_to_bits_with_nan.ensures,
      c.mode_word.ensures,
      bool_word c.args.row.padded,
    )
