-- `phs_decode_serial_type` meets its contract: the words are those of the value that was decoded.
-- Assumes nothing.
use Rattle.std.specs.Prelude.{Some}
use mathlib.Core.Path.{◌≡◌, refl, sym, ◌∙◌}
use Rattle.record.specs.Value.{decode_at}
use Rattle.record.proofs.Bodies.{decoded_there}
use Rattle.phsarodil.proofs.values.phs_decode_serial_type.Goals as goal
use Rattle.phsarodil.proofs.values.phs_decode_serial_type.Goals.{In-Some}

-- the value that was decoded
there : (c : In-Some) →
    decode_at c.args.kind c.args.bytes.now c.args.offset ≡ Some (c.in-Some.value, c.in-Some.n)
there c = sym c.decode_serial_type.ensures ∙ c.in-Some.is

pub returns-in_default : goal.returns-in_default
returns-in_default c = record { number = refl; out = rw (sym c.decode_serial_type.ensures ∙ c.in_default.is) }

pub bits_of-bits-requires : goal.bits_of-bits-requires
bits_of-bits-requires c = decoded_there _ _ _ _ _ (there (goal.at.bits_of-bits-requires c).In-Some)

pub returns : goal.returns
returns c =
    let e = there (goal.at.returns c).In-Some in
    record { number = refl; out = rw (e, c.tag_of-tag.ensures, c.bits_of-bits.ensures, c.start-from.ensures) }
