-- `listing::inner::put_line` meets its contract: numbers, types and line end stand one behind the other.
-- Assumes nothing.
use Rattle.digits.proofs.Laws.{puts_more}
use Rattle.listing.specs.Text.{line_text}
use Rattle.listing.proofs.inner.put_line.Goals as goal

pub returns-clause-put : goal.returns-clause-put
unfolding line_text
returns-clause-put c = puts_more (puts_more c.put_numbers.ensures.put c.put_types.ensures.put) c.put_bytes.ensures
