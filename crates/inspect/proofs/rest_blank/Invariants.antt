-- `inspect::rest_blank` meets its contract. The invariant: the whole test is the test from here on.
-- Assumes nothing.
use Prim.Native.Nat.{◌-◌}
use mathlib.Core.Path.{◌≡◌}
use Rattle.list.specs.Inspect.{all_from}
use Rattle.state.specs.State.{viewed}
use Rattle.inspect.specs.Tests.{blank_at}
use Rattle.inspect.proofs.rest_blank.Given as goal

abbrev pub invariant-loop-slot : goal.invariant-loop-slot
invariant-loop-slot l = all_from (l.n - l.top) l.top (blank_at (viewed l.fields)) ≡ all_from (l.n - l.slot) l.slot (blank_at (viewed l.fields))
