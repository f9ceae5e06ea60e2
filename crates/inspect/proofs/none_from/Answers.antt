-- `inspect::none_from` meets its contract: the steps are those of `proofs/Bits.antt`.
-- Assumes nothing.
use Prim.Native.Nat.{◌-◌}
use native.Mathlib.Omega.{arith}
use lib.ListN.{drop, length-drop}
use lib.Seq.{length-take-le}
use Rattle.inspect.proofs.Bits.{together_more, nones_end}
use Rattle.inspect.proofs.none_from.Goals as goal

pub loop-place-preserved : goal.loop-place-preserved
loop-place-preserved c = together_more c.loop-place.invariant

pub returns : goal.returns
returns c =
    let a = c.args in
    nones_end _ _ _ (omega (arith, length-take-le (a.n - a.depth) (drop a.depth a.stack.now) (omega (arith, length-drop a.depth a.stack.now)), length-drop a.depth a.stack.now)) c.loop-place.invariant
