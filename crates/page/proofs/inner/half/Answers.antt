-- `page::inner::half` meets its contract.
-- Assumes nothing.
use borrow.Author.Rules.{rules}
use Rattle.page.proofs.Laws.{two_bytes}
use Rattle.page.proofs.inner.half.Goals as goal

pub returns : goal.returns
returns c = record { value = two_bytes _ _ _ _ c.byte.ensures.value c.byte-2.ensures.value; small = search rules }
