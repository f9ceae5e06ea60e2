-- `crc::byte` meets its contract: eight shifts are four and four.
-- Assumes nothing.
use mathlib.Core.Path.{sym, ap, ◌∙◌}
use lib.Bits.{bit_xor}
use Rattle.crc.specs.Crc.{shifts, with_byte}
use Rattle.crc.proofs.Shifts.{shifts_add}
use Rattle.crc.proofs.byte.Goals as goal

pub returns : goal.returns
unfolding with_byte
returns c =
    let a = c.args in
    c.half-2.ensures ∙ ap (shifts 4) (c.half.ensures ∙ ap (λ b. shifts 4 (bit_xor a.c b)) c.from.ensures) ∙ sym (shifts_add 4 4 (bit_xor a.c a.b))
