-- The values of the rows in freeblocks (rule 4.13): what their columns say, by the bodies' places.
-- Assumes nothing.
use Rattle.std.specs.Prelude.{ℕ, ◌+◌, List, [], ◌∷◌, ◌++◌, map, drop}
use Rattle.attempt.specs.Values.{row_values}
use Rattle.freeblock.specs.Freeblock.{First, nowhere, start_at, first_start, freeblocks}
use Rattle.page.specs.Page.{Block, payload_of}
use Rattle.record.specs.Value.{moved_value}
use Rattle.record.specs.declared.record.Value.{Value}

-- Rules 10.2 and 4.13: the row that is found has the values of a row at the start of the payload's part, said of a slice in which the
-- payload begins at `from`
abbrev pub first_values : ℕ → List ℕ → First → List (List Value)
first_values from payload nowhere = []
first_values from payload (start_at v x) = map (moved_value (from + v)) (row_values (drop v payload) 0) ∷ []

-- block by block, as `blocks_hits` has them; the page begins at `start` of the slice
abbrev pub blocks_values : ℕ → List ℕ → List ℕ → List Block → List (List Value)
blocks_values start page hints [] = []
blocks_values start page hints (b ∷ bs) =
    first_values (start + (b.at + 4)) (payload_of page b) (first_start (payload_of page b) hints) ++ blocks_values start page hints bs

-- Rule 10.4: row by row, as `page_hits` has them
unfoldable pub freed_values : ℕ → List ℕ → ℕ → List ℕ → List (List Value)
freed_values start page head hints = blocks_values start page hints (freeblocks page head)
