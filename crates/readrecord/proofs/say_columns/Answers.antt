-- `readrecord::say_columns` is safe and ends: each type takes at least one byte (`varint_lies`), and the bodies stay in the record.
-- Assumes nothing.
use Rattle.std.proofs.Common.{sym, ap, ◌∙◌, arith}
use Rattle.record.proofs.Laws.{varint_lies}
use Rattle.readrecord.proofs.say_columns.Goals as goal

pub loop-at-smaller : goal.loop-at-smaller
loop-at-smaller c =
    let z = varint_lies _ _ _ _ (sym c.serial_type.ensures ∙ c.in-Some.is) in
    omega (arith, z.past, z.inside, ap (λ start. start.at) c.new.ensures)
