-- `inspect::stack_blank` meets its contract. The invariant: the whole test is the test from here on.
-- Assumes nothing.
use Prim.Native.Nat.{◌-◌}
use mathlib.Core.Path.{◌≡◌}
use Rattle.list.specs.Inspect.{all_from}
use Rattle.state.specs.State.{viewed}
use Rattle.inspect.specs.Tests.{stack_blank}
use Rattle.inspect.proofs.stack_blank.Given as goal

abbrev pub invariant-loop-slot : goal.invariant-loop-slot
invariant-loop-slot l = all_from l.depth 0 (stack_blank (viewed l.fields) l.stack) ≡ all_from (l.depth - l.slot-index) l.slot-index (stack_blank (viewed l.fields) l.stack)
