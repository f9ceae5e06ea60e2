-- `inspect::weights_ok` meets its contract. The invariant: the whole test is the test from here on.
-- Assumes nothing.
use Prim.Native.Nat.{◌-◌}
use mathlib.Core.Path.{◌≡◌}
use Rattle.inspect.specs.Tests.{sum_ok}
use Rattle.inspect.proofs.weights_ok.Given as goal

abbrev pub invariant-loop-taken : goal.invariant-loop-taken
invariant-loop-taken l = sum_ok l.weights l.n 0 l.weight ≡ sum_ok l.weights (l.n - l.taken-index) l.taken-index l.left
