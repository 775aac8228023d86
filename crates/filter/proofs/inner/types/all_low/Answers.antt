-- `filter::inner::types::all_low` meets its contract: the library tests each byte of the part.
-- Assumes nothing.
use borrow.Author.Rules.{rules}
use lib.Dec.{ltb}
use Rattle.std.proofs.lemmas.Iterator.{YieldsList-from_slice}
use Rattle.std.proofs.lemmas.Iterator.Search.{all_from_yields_List}
use Rattle.filter.proofs.Headers.{low_between}
use Rattle.filter.proofs.inner.types.all_low.Goals as goal

pub returns : goal.returns
returns c =
    low_between _ _ _ _ c.requires.1
    (all_from_yields_List (λ b. ltb b 128) _ _ _ c.all.ensures.ran (YieldsList-from_slice _ c.iter.ensures.rest) (λ x b q k. search rules))
