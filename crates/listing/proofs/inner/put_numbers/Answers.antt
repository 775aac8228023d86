-- `listing::inner::put_numbers` meets its contract: its fields stand one behind the other.
-- Assumes nothing.
use Rattle.digits.proofs.Laws.{puts_more}
use Rattle.listing.specs.Text.{numbers_text}
use Rattle.listing.proofs.inner.put_numbers.Goals as goal

pub returns-clause-put : goal.returns-clause-put
unfolding numbers_text
returns-clause-put c =
    puts_more (puts_more (puts_more c.put_field.ensures.put c.put_field-2.ensures.put) c.put_hex.ensures.put) c.put_bytes.ensures
