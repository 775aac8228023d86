-- `carvelist::say_answer` is safe: what the judge lets pass has all its hints, and few enough (`taken`).
-- Assumes nothing.
use mathlib.Core.Path.{sym, ◌∙◌}
use Rattle.listing.proofs.Laws.{taken, taken_sizes}
use Rattle.listing.specs.Input.{Taken}
use Rattle.carvelist.proofs.say_answer.Goals as goal
use Rattle.carvelist.proofs.say_answer.Goals.{In-Ok}

passed : (c : In-Ok) → Taken c.args.input.now
passed c = taken _ (sym c.judge.ensures ∙ c.in-Ok.is)

pub region_of-requires : goal.region_of-requires
region_of-requires c = passed c

pub hints_of-requires : goal.hints_of-requires
hints_of-requires c = passed (goal.at.hints_of-requires c).In-Ok

pub say_list-requires : goal.say_list-requires
say_list-requires c =
    let s = taken_sizes _ (passed (goal.at.say_list-requires c).In-Ok) in
    (rw c.region_of.ensures s.0, rw c.hints_of.ensures s.1)
