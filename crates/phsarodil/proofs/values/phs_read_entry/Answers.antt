-- `phs_read_entry` meets its contract: number and words are those of what the entry reads as.
-- Assumes nothing.
use Rattle.std.specs.Prelude.{Some}
use mathlib.Core.Path.{◌≡◌, sym, ◌∙◌}
use Rattle.record.specs.Entry.{read_entry}
use Rattle.phsarodil.specs.Door.{entry_of}
use Rattle.record.proofs.Bodies.{read_there}
use Rattle.phsarodil.proofs.values.phs_read_entry.Goals as goal
use Rattle.phsarodil.proofs.values.phs_read_entry.Goals.{In-Some}

-- the value that was read
there : (c : In-Some) →
    read_entry (entry_of c.args.state c.args.kind c.args.start c.args.length) c.args.bytes.now ≡ Some c.in-Some.value
there c = sym c.read.ensures.value ∙ c.in-Some.is

pub returns-in_default : goal.returns-in_default
returns-in_default c =
    let e = sym c.read.ensures.value ∙ c.in_default.is in
    record { number = c.number_of.ensures ∙ rw e; out = rw e }

pub bits_of-bits-requires : goal.bits_of-bits-requires
bits_of-bits-requires c = read_there _ _ _ (there (goal.at.bits_of-bits-requires c).In-Some)

pub returns : goal.returns
returns c =
    let e = there (goal.at.returns c).In-Some in
    record { number = rw e; out = rw (e, c.tag_of-tag.ensures, c.bits_of-bits.ensures, c.start-from.ensures, c.len-size.ensures) }
