-- `inspect::none_from` meets its contract: the invariant is `Together` of `proofs/Bits.antt`.
-- Assumes nothing.
use Rattle.inspect.proofs.Bits.{Together, unlike}
use Rattle.inspect.proofs.none_from.Given as goal

abbrev pub invariant-loop-place : goal.invariant-loop-place
invariant-loop-place l = Together unlike l.place-items l.place-index l.other
