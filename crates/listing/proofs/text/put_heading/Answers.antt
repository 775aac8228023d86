-- `listing::text::put_heading` meets its contract.
-- Assumes nothing.
use Rattle.digits.proofs.Laws.{puts_first}
use Rattle.listing.specs.Text.{heading}
use Rattle.listing.proofs.text.put_heading.Goals as goal

pub returns-clause-put : goal.returns-clause-put
unfolding heading
returns-clause-put c = puts_first c.new-text.ensures.starts c.put_bytes.ensures
