-- `search::search::slide` meets its contract.
-- Assumes nothing.
use Rattle.std.proofs.Common.{◌≡◌, ◌+◌, ◌-◌, length, get_or, set, sym, ◌∙◌, arith}
use native.Mathlib.Nat.{sub_self}
use Rattle.search.specs.Inner.{last_of}
use Rattle.search.proofs.Searching.{Slides, slides, Seen, seen_none, seen_on, seen_all, seen_past, seen_put, seen_full, ended}
use Rattle.search.proofs.search.slide.Goals as goal
use Rattle.search.proofs.search.slide.Goals.{After-replace-on, After-next_end-i-in-loop-i, then-stands+else-n-places, else-stands}

-- the table, and how far a window goes on behind a place
ready : (c : After-replace-on) →
    let end = get_or c.args.pattern.now (last_of c.args.pattern.now) 0 in
    Slides c.args.haystack.now c.args.pattern.now (set c.shifts-table.result end c.replace-on.new.dest) c.replace-on.result
ready c =
    slides
    (c.requires.pattern_nonzero, (c.requires.pattern_in_bounds, c.requires.haystack_len_bound))
    (omega (arith, c.type_inv.pattern (last_of c.args.pattern.now)))
    c.shifts-table.ensures
    (c.replace-on.ensures.value, rw c.replace-on.ensures.after)

pub loop-i-init : goal.loop-i-init
loop-i-init c =
    (c.next_end-i.ensures.skips.on, c.next_end-i.ensures.skips.inside, seen_on seen_none (c.next_end-i.ensures.skips.none ∙ rw sub_self), c.next_end-i.ensures.ends)

pub returns-then-n-places : goal.returns-then-n-places
returns-then-n-places c =
    let z = seen_full c.loop-i.invariant.2 (sym c.stands.ensures ∙ c.if-stands.true) c.requires.pattern_nonzero (omega arith) c.if-n-places.true in
    record { value = z.0; places_after = z.1 }

-- the window's own offset is a place, which is written, or none
looked : (c : After-next_end-i-in-loop-i) →
    Seen c.args.haystack.now c.args.pattern.now c.args.places.now (c.loop-i.i - last_of c.args.pattern.now + 1) c.if-stands.places c.if-stands.n
looked c =
    elim c.if-stands.branch [
      | then-stands+else-n-places w ↦
          rw (w.places-is, w.n-is) (seen_put c.loop-i.invariant.2 (sym c.stands.ensures ∙ w.if-stands.true) (omega arith))
      | else-stands w ↦ rw (w.places-is, w.n-is) (seen_past c.loop-i.invariant.2 (sym c.stands.ensures ∙ w.if-stands.false))
    ]

pub loop-i-preserved : goal.loop-i-preserved
loop-i-preserved c =
    let passes = (ready (goal.at.loop-i-preserved c).After-replace-on).passes _ c.loop-i.invariant.0 (c.loop-i.invariant.3 (omega arith)) in (
      omega (arith, c.next_end-i-in-loop-i.ensures.skips.on),
      c.next_end-i-in-loop-i.ensures.skips.inside,
      seen_on (looked c) (c.next_end-i-in-loop-i.ensures.skips.none ∙ passes),
      c.next_end-i-in-loop-i.ensures.ends,
    )

pub returns : goal.returns
returns c =
    let z = seen_all c.loop-i.invariant.2 (ended _ _ _ c.requires.pattern_nonzero c.loop-i.invariant.1 (omega arith)) in
    record { value = z.0; places_after = z.1 }
