-- `crc::of_bytes` meets its contract. The invariant: what is left of the bytes, taken in from `sum`, gives what all of them give.
-- Assumes nothing.
use mathlib.Core.Path.{sym, ap, ◌∙◌}
use Prim.Native.Nat.{ℕ}
use native.Mathlib.Omega.{arith}
use lib.Bits.{bit_xor}
use Rattle.crc.specs.Crc.{ones, crc_of}
use Rattle.crc.proofs.Shifts.{next_of, last_of}
use Rattle.crc.proofs.of_bytes.Goals as goal

pub loop-b-preserved : goal.loop-b-preserved
loop-b-preserved c =
    let l = c.loop-b in
    next_of _ l.sum l.b-index (omega arith) c.byte-sum.ensures ∙ l.invariant

pub returns : goal.returns
unfolding crc_of
returns c =
    let l = c.loop-b in
    ap (λ (k : ℕ). bit_xor k ones) (sym (last_of _ l.sum l.b-index (omega arith)) ∙ l.invariant)
