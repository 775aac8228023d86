-- What a call over walks answers, and the call that writes the leaves of a table (rules 9.8 to 9.11).
-- Assumes nothing.
use Rattle.std.specs.Prelude.{ℕ, min, ◌≡◌, Bool, cond, not, List, [], ◌∷◌, ltb, length, replicate, Result, Ok, Err}
use Rattle.page.specs.Page.{size_fits, whole_pages}
use Rattle.sheet.specs.Answer.{number_in, written_in}
use Rattle.sheet.specs.Filled.{ListFilling, list_left}
use Rattle.sheet.specs.Limits.{largest_region}
use Rattle.sheet.specs.Refusal.{Check, first_held, refusal_number, after, after_or0, after_or_kept}
use Rattle.sheet.specs.Refusal.{Checked}
use Rattle.sheet.specs.declared.refusal.Refusal.{Refusal}
use Rattle.sheet.specs.declared.refusal.Refusal.TheVariants.{TooLarge, PageSize, WalkSpace, NoRoom}
use Rattle.walk.specs.Walk.{Walk, walk, hits_of, overflows}
use Rattle.walk.specs.declared.walk.Walked.{Walked}
use Rattle.walk.specs.declared.walk.Walked.TheVariants.{Done, Full, Short}

-- ---- the answer of a call over walks, whatever it makes of the leaves

-- what it rests on: what the checks come to, how many whole pages there are and how many flags are lent, how many things come of the
-- walks, whether the stack overflowed, and for how many things there is room
pub record Walking : Type 0 where
  pub checked : Checked
  pub pages : ℕ
  pub flags : ℕ
  pub things : ℕ
  pub overflow : Bool
  pub room : ℕ

-- Rule 9.10: fewer flags than whole pages is refusal 8, and comes before all that the walks come to
abbrev pub if_flagged : {A : Type 0} → Walking → A → A → A
if_flagged w x few = cond (ltb w.flags w.pages) few x

-- Rule 9.9: one thing more than there is room for is refusal 9, and then a stack that overflowed refusal 8
abbrev pub walked_of : Walking → Walked
walked_of w =
    if_flagged w
    (cond (ltb w.room w.things) (Full w.room) (cond w.overflow (Short w.things) (Done w.things)))
    (Short 0)

abbrev pub walking_answer : Walking → Result Walked Refusal
walking_answer w = after Err w.checked (Ok (walked_of w))

-- how a walk ends behind the checks: the refusal's number, 0 for none, and how many things are written
abbrev pub end_number : Walked → ℕ
end_number (Done n) = 0
end_number (Full n) = refusal_number NoRoom
end_number (Short n) = refusal_number WalkSpace

abbrev pub end_written : Walked → ℕ
end_written (Done n) = n
end_written (Full n) = n
end_written (Short n) = n

-- the paper's number of an answer, 0 where nothing is refused, and how many things it says are written
abbrev pub walked_number : Result Walked Refusal → ℕ
walked_number r = number_in end_number r

abbrev pub walked_written : Result Walked Refusal → ℕ
walked_written r = written_in end_written r

-- the same, said of what the answer rests on
abbrev pub walking_number : Walking → ℕ
walking_number w =
    after refusal_number w.checked
    (if_flagged w
    (cond (ltb w.room w.things) (refusal_number NoRoom) (cond w.overflow (refusal_number WalkSpace) 0))
    (refusal_number WalkSpace))

abbrev pub walking_written : Walking → ℕ
walking_written w = after_or0 w.checked (if_flagged w (min w.room w.things) 0)

-- the things that there are to write: none where flags are too few
abbrev pub walking_things : {A : Type 0} → Walking → List A → List A
walking_things w things = if_flagged w things []

-- Rule 9.11: flags and stack, each zero behind the checks, and as it was where one refuses
abbrev pub walking_cleared : Walking → List ℕ → List ℕ
walking_cleared w old = after_or_kept w.checked (replicate (length old) 0) old

-- ---- the leaves of a table

-- what the call is asked: a database and its page size, the table's root, and the lists that it is lent
pub record LeavesAsked : Type 0 where
  pub db : List ℕ
  pub size : ℕ
  pub root : ℕ
  pub flags : List ℕ
  pub stack : List ℕ
  pub leaves : List ℕ

abbrev pub leaves_asked : List ℕ → ℕ → ℕ → List ℕ → List ℕ → List ℕ → LeavesAsked
leaves_asked db size root flags stack leaves =
    record { db = db; size = size; root = root; flags = flags; stack = stack; leaves = leaves }

abbrev pub walk_checks : ℕ → ℕ → List Check
walk_checks len size =
    record { refusal = TooLarge; holds = ltb largest_region len }
    ∷ record { refusal = PageSize; holds = not (size_fits size) }
    ∷ []

unfoldable pub leaves_of : Walk → List ℕ
leaves_of w = hits_of (λ p. p ∷ []) w

-- the walk, and what the answer rests on
abbrev pub collect_walk : LeavesAsked → Walk
collect_walk a = walk a.db a.size (length a.stack) a.root

abbrev pub leaves_walking : Checked → ℕ → ℕ → ℕ → Walk → Walking
leaves_walking c pages flags room w =
    record { checked = c; pages = pages; flags = flags; things = length (leaves_of w); overflow = overflows w; room = room }

abbrev pub collect_walking : LeavesAsked → Walking
collect_walking a =
    leaves_walking (first_held (walk_checks (length a.db) a.size)) (whole_pages (length a.db) a.size)
    (length a.flags) (length a.leaves) (collect_walk a)

unfoldable pub collect_answer : LeavesAsked → Result Walked Refusal
collect_answer a = walking_answer (collect_walking a)

unfoldable pub collect_number : LeavesAsked → ℕ
collect_number a = walking_number (collect_walking a)

unfoldable pub collect_written : LeavesAsked → ℕ
collect_written a = walking_written (collect_walking a)

-- the list is left as by any call that fills one
abbrev pub collect_filling : LeavesAsked → ListFilling
collect_filling a =
    let w = collect_walking a in
    record { checked = w.checked; things = walking_things w (leaves_of (collect_walk a)); old = a.leaves }

unfoldable pub collect_leaves : LeavesAsked → List ℕ
collect_leaves a = list_left (collect_filling a)

unfoldable pub collect_cleared : LeavesAsked → List ℕ → List ℕ
collect_cleared a old = walking_cleared (collect_walking a) old

-- what the call leaves: its answer, and what the lists hold at exit
pub record LeavesOutcome : Type 0 where
  pub answer : Result Walked Refusal
  pub flags : List ℕ
  pub stack : List ℕ
  pub leaves : List ℕ

abbrev pub leaves_outcome : Result Walked Refusal → List ℕ → List ℕ → List ℕ → LeavesOutcome
leaves_outcome r flags stack leaves = record { answer = r; flags = flags; stack = stack; leaves = leaves }

-- what it promises
pub record CollectsLeaves (a : LeavesAsked) (x : LeavesOutcome) : Type 0 where
  pub answer : x.answer ≡ collect_answer a
  pub number : walked_number x.answer ≡ collect_number a
  pub written : walked_written x.answer ≡ collect_written a
  pub leaves : x.leaves ≡ collect_leaves a
  pub flags : x.flags ≡ collect_cleared a a.flags
  pub stack : x.stack ≡ collect_cleared a a.stack
