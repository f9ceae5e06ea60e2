-- `inspect::all_zero` meets its contract: the invariant is `Together` of `proofs/Bits.antt`.
-- Assumes nothing.
use Rattle.inspect.proofs.Bits.{Together, same}
use Rattle.inspect.proofs.all_zero.Given as goal

abbrev pub invariant-loop-number : goal.invariant-loop-number
invariant-loop-number l = Together same l.number-items l.number-index l.any
