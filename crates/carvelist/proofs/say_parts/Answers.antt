-- `carvelist::say_parts` meets its contract.
-- Assumes nothing.
use Rattle.std.specs.Prelude.{Ok}
use Rattle.std.proofs.Common.{◌≡◌, ℕ, ◌<◌, length, refl, sym, ap, ◌∙◌, arith, rules}
use Rattle.listing.proofs.Laws.{Small, part_small, full_is, done_is_not, refused_is_not, on_start, on_full, on_end}
use Rattle.listing.specs.Part.{part_answer, parts_of, rows_sum, read_sum}
use Rattle.carvelist.proofs.say_parts.Goals as goal
use Rattle.carvelist.proofs.say_parts.Goals.{In-Ok, In-Full}

answer : (c : In-Ok) → part_answer c.args.region.now c.args.hints.now c.loop-part.at ≡ Ok c.in-Ok.part.found
answer c = sym c.in-Ok.ensures.lists_part.answer

small : (c : In-Ok) → Small (length c.args.region.now) c.loop-part.at (Ok c.in-Ok.part.found)
small c = rw (answer c) at (part_small c.args.region.now c.args.hints.now c.loop-part.at c.requires.0 c.requires.1)

-- the next part starts further on
past : (c : In-Full) → Small (length c.args.region.now) c.loop-part.at (Ok c.in-Ok.part.found)
    → (c.loop-part.at < c.in-Ok.part.found.place) × (c.in-Ok.part.found.place < length c.args.region.now)
past c s = s.past _ _ _ (full_is c.in-Ok.part.found _ c.in-Full.is)

pub loop-part-init : goal.loop-part-init
loop-part-init c = (on_start _ _, search rules, search rules, search rules)

pub overflow_add-total : goal.overflow_add-total
overflow_add-total c =
    let l = c.loop-part.invariant in
    omega (arith, c.written.ensures, (small (goal.at.overflow_add-total c).In-Ok).rows, l.1, l.2, c.requires)

pub overflow_add-total-in-Ok : goal.overflow_add-total-in-Ok
overflow_add-total-in-Ok c =
    let l = c.loop-part.invariant in
    omega (arith, (small (goal.at.overflow_add-total-in-Ok c).In-Ok).read, l.1, l.3, c.requires)

pub loop-part-smaller : goal.loop-part-smaller
loop-part-smaller c =
    let p = goal.at.loop-part-smaller c in
    let w = past p.In-Full (small p.In-Ok) in
    omega (arith, w.0, w.1)

pub loop-part-preserved : goal.loop-part-preserved
loop-part-preserved c =
    let p = goal.at.loop-part-preserved c in
    let s = small p.In-Ok in
    let w = past p.In-Full s in
    let l = c.loop-part.invariant in (
      rw c.written.ensures (on_full _ _ _ _ _ _ l.1 (answer p.In-Ok) _ _ _ (full_is c.in-Ok.part.found _ c.in-Full.is) w.0 l.0),
      omega (arith, w.1),
      omega (arith, c.written.ensures, s.rows, w.0, l.2),
      omega (arith, s.read, w.0, l.3),
    )

pub returns-in-Done : goal.returns-in-Done
returns-in-Done c =
    let l = c.loop-part.invariant in
    let t = on_end _ _ _ _ _ _ l.1 (answer (goal.at.returns-in-Done c).In-Ok) (done_is_not c.in-Ok.part.found _ c.in-Done.is) l.0 in
    rw (c.written.ensures, t.0, t.1) refl

-- the checks refuse no part, and a part that they refused would have no rows
pub returns-in_default : goal.returns-in_default
returns-in_default c =
    let l = c.loop-part.invariant in
    let t = on_end _ _ _ _ _ _ l.1 (sym c.in_default.ensures.lists_part.answer) (refused_is_not _) l.0 in
    let rows : c.loop-part.total.rows ≡ rows_sum (parts_of c.args.region.now c.args.hints.now) = omega (arith, t.0) in
    let read : c.loop-part.total.read ≡ read_sum (parts_of c.args.region.now c.args.hints.now) = omega (arith, t.1) in
    rw (← rows, ← read) refl
