-- `Text::put_hex` meets its contract.
-- Assumes nothing.
use Rattle.digits.specs.Digits.{hex8}
use Rattle.digits.proofs.inner.Text.put_hex.Goals as goal

pub returns-clause-put : goal.returns-clause-put
unfolding hex8
returns-clause-put c =
    rw (
      ← c.hex_digit.ensures,
      ← c.hex_digit-2.ensures,
      ← c.hex_digit-3.ensures,
      ← c.hex_digit-4.ensures,
      ← c.hex_digit-5.ensures,
      ← c.hex_digit-6.ensures,
      ← c.hex_digit-7.ensures,
      ← c.hex_digit-8.ensures,
    ) c.put_bytes.ensures
