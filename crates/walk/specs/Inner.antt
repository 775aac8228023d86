-- What the code carries between its own functions, and how it stands for what the walk speaks of; nothing that a caller has to believe.
-- Assumes nothing.
use Rattle.std.specs.Prelude.{ℕ, zero, suc, ◌+◌, ◌*◌, ◌/◌, ◌≤◌, ◌<◌, ◌≡◌, Bool, true, cond, List, [], ◌∷◌, eqb, length, get_or, take}
use Rattle.std.specs.Prelude.{Option, Some, None, Result, Ok, Err}
use Rattle.sheet.specs.Filled.{laid}
use Rattle.sheet.specs.Limits.{largest_region, most_tables, hints_known}
use Rattle.walk.specs.Carve.{sum_of, counts_fit}
use Rattle.walk.specs.Collect.{walked_of, walking_things, leaves_of, leaves_walking}
use Rattle.walk.specs.Walk.{Popped, leaf_then, onward, overflow, Walk, through, overflowed, leaf, walk_from}
use Rattle.walk.specs.declared.inner.Overflow.{Overflow}
use Rattle.walk.specs.declared.inner.Stack.{Stack}
use Rattle.walk.specs.declared.walk.Walked.{Walked}

-- the stack that the first n cells hold, its top first
unfoldable pub tops : List ℕ → ℕ → List ℕ
tops cells zero = []
tops cells (suc n) = get_or cells n 0 ∷ tops cells n

-- of the code's stack: its list, and how many pages it has room for
abbrev pub held : Stack → List ℕ
held s = tops s.pages.now s.top

abbrev pub depth_of : Stack → ℕ
depth_of s = length s.pages.now

-- the top is within the cells
abbrev pub Inside : Stack → Type 0
Inside s = s.top ≤ depth_of s

-- a step leaves a stack over the same cells
pub record Keeps (old new : Stack) : Type 0 where
  pub pages_kept : new.pages.ghost_name ≡ old.pages.ghost_name
  pub depth : depth_of new ≡ depth_of old
  pub inside : Inside new

-- the top is gone, if there was one
abbrev pub TakenOff : Stack → Option ℕ → Stack → Type 0
TakenOff old (Some p) new = held old ≡ p ∷ held new
TakenOff old None new = held old ≡ []

-- what pushing pages came to, and what popping one did: whether it is a leaf
abbrev pub pushed_as : Stack → Result Unit Overflow → Popped
pushed_as s (Ok u) = onward (held s)
pushed_as s (Err e) = overflow

abbrev pub stepped_as : Stack → Result Bool Overflow → Popped
stepped_as s (Ok is_leaf) = cond is_leaf (leaf_then (held s)) (onward (held s))
stepped_as s (Err e) = overflow

-- how many marks are 0
unfoldable pub zeros : List ℕ → ℕ
zeros [] = 0
zeros (m ∷ ms) = cond (eqb m 0) 1 0 + zeros ms

-- the pops that can still come: each page that is not marked may fill the stack once more
unfoldable pub need : ℕ → ℕ → List ℕ → ℕ → ℕ
need pages depth flags top = zeros (take pages flags) * (depth + 1) + top

-- the walk that is still to come
abbrev pub rest : ℕ → List ℕ → ℕ → List ℕ → List ℕ → ℕ → Walk
rest f db size flags stack top = walk_from f db size (length stack) (take (length db / size) flags) (tops stack top)

-- a leaf is popped: it comes first in the walk w, and what is behind it is the walk from what the lists have become
pub record LeafIs (db : List ℕ) (size : ℕ) (w : Walk) (most : ℕ) (flags stack : List ℕ) (p top : ℕ) : Type 0 where
  pub some : 1 ≤ p
  pub there : p ≤ length db / size
  pub fuel : ℕ
  pub enough : need (length db / size) (length stack) flags top ≤ fuel
  pub less : need (length db / size) (length stack) flags top < most
  pub fits : top ≤ length stack
  pub is : w ≡ leaf p (rest fuel db size flags stack top)

abbrev pub NextIs : List ℕ → ℕ → Walk → ℕ → List ℕ → Stack → Result (Option ℕ) Overflow → Type 0
NextIs db size w most flags s (Ok (Some p)) = LeafIs db size w most flags s.pages.now p s.top
NextIs db size w most flags s (Ok None) = w ≡ through
NextIs db size w most flags s (Err e) = w ≡ overflowed

-- whatever the fuel, if it is enough
abbrev pub NextSays : List ℕ → ℕ → List ℕ → Stack → List ℕ → Stack → Result (Option ℕ) Overflow → Type 0
NextSays db size flags₀ s₀ flags s r =
    (f : ℕ) → need (length db / size) (depth_of s₀) flags₀ s₀.top ≤ f
    → NextIs db size (rest f db size flags₀ s₀.pages.now s₀.top) (need (length db / size) (depth_of s₀) flags₀ s₀.top) flags s r

-- what collecting the leaves of a walk leaves, behind the checks
pub record Collected (pages flags : ℕ) (w : Walk) (old : List ℕ) (r : Walked) (leaves : List ℕ) : Type 0 where
  pub answer : r ≡ walked_of (leaves_walking (Ok tt) pages flags (length old) w)
  pub leaves_are : leaves ≡ laid (walking_things (leaves_walking (Ok tt) pages flags (length old) w) (leaves_of w)) old

-- tables that have passed the checks
pub record TablesFit (len size : ℕ) (roots counts hints : List ℕ) : Type 0 where
  pub fit : counts_fit counts ≡ true
  pub alike : length roots ≡ length counts
  pub sums : sum_of counts ≡ length hints
  pub known : hints_known hints ≡ true
  pub small : len ≤ largest_region
  pub few : length roots ≤ most_tables
  pub low : 512 ≤ size
  pub high : size ≤ 65536
