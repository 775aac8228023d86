-- `hit::inner::intra_page` meets its contract: the percent is the definition's.
-- Assumes nothing.
use Rattle.hit.proofs.inner.intra_page.Goals as goal

pub returns : goal.returns
returns c = rw c.percent.ensures
