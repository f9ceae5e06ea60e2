-- `inspect::all_zero` meets its contract: the steps are those of `proofs/Bits.antt`.
-- Assumes nothing.
use native.Mathlib.Omega.{arith}
use lib.Seq.{length-take-le}
use Rattle.inspect.proofs.Bits.{together_more, zeros_end}
use Rattle.inspect.proofs.all_zero.Goals as goal

pub loop-number-preserved : goal.loop-number-preserved
loop-number-preserved c = together_more c.loop-number.invariant

pub returns : goal.returns
returns c = zeros_end _ _ (omega (arith, length-take-le c.args.n c.args.list.now c.requires)) c.loop-number.invariant
