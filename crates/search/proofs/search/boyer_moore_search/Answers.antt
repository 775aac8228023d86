-- `search::search::boyer_moore_search` meets its contract: behind the checks it is the sliding window's answer, or there is no place.
-- Assumes nothing.
use Rattle.std.proofs.Common.{arith, rules}
use borrow.Author.Tests.{lt-ltb}
use Rattle.search.specs.Search.{places_below}
use Rattle.search.proofs.Searching.{searched, empty_nowhere, ended, seen_none, seen_all}
use Rattle.sheet.proofs.Filling.{list_refused}
use Rattle.search.proofs.search.boyer_moore_search.Goals as goal
use Rattle.search.proofs.search.boyer_moore_search.Goals.{then-is_empty-via-then-is_empty, then-is_empty-via-else-is_empty+then-pattern-haystack}

pub returns-then-haystack-gt-LARGEST_REGION : goal.returns-then-haystack-gt-LARGEST_REGION
returns-then-haystack-gt-LARGEST_REGION c = list_refused _ _ (simp (lt-ltb _ _ c.if-haystack-gt-LARGEST_REGION.true))

pub returns-then-is_empty : goal.returns-then-is_empty
unfolding places_below
returns-then-is_empty c =
    elim c.then-is_empty.branch [
      | then-is_empty-via-then-is_empty w ↦ searched _ _ _ (omega arith) (seen_all seen_none (empty_nowhere _ _ (search rules)))
      | then-is_empty-via-else-is_empty+then-pattern-haystack w ↦ searched _ _ _ (omega arith) (seen_all seen_none (ended _ _ 0 (search rules) (omega arith) (search rules)))
    ]

pub returns : goal.returns
returns c = searched _ _ _ (omega arith) (c.slide.ensures.value, c.slide.ensures.places_after)
