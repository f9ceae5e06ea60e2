-- `crc::of_bytes` meets its contract. The invariant: what is left of the bytes, taken in from `sum`, gives what all of them give.
-- Assumes nothing.
use mathlib.Core.Path.{◌≡◌}
use lib.ListN.{drop}
use Rattle.crc.specs.Crc.{ones, with_bytes}
use Rattle.crc.proofs.of_bytes.Given as goal

abbrev pub invariant-loop-b : goal.invariant-loop-b
invariant-loop-b l = with_bytes l.sum (drop l.b-index l.s) ≡ with_bytes ones l.s
