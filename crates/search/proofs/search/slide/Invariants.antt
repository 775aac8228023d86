-- `search::search::slide` meets its contract. The loop's invariant: the places below the window's start are found.
-- Assumes nothing.
use Prim.Native.Nat.{◌-◌, ◌≤◌}
use lib.ListN.{length}
use Rattle.search.specs.Inner.{Ends}
use Rattle.search.proofs.Searching.{Seen}
use Rattle.search.proofs.search.slide.Given as goal

abbrev pub invariant-loop-i : goal.invariant-loop-i
invariant-loop-i l =
    (l.last ≤ l.i) × (l.i - l.last ≤ length l.haystack) × Seen l.haystack l.pattern l.initial.places (l.i - l.last) l.places l.n × Ends l.haystack l.pattern l.i

abbrev pub decreases-loop-i : goal.decreases-loop-i
decreases-loop-i l = length l.haystack - l.i
