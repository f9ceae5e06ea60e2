-- `inspect::table_ok` meets its contract. The invariant: the whole test is the test from here on.
-- Assumes nothing.
use Prim.Native.Nat.{◌-◌, ◌*◌}
use mathlib.Core.Path.{◌≡◌}
use Rattle.crc.specs.Home.{home_of}
use Rattle.list.specs.Inspect.{all_from}
use Rattle.inspect.specs.Tests.{used_stands}
use Rattle.inspect.proofs.table_ok.Given as goal

abbrev pub invariant-loop-slot : goal.invariant-loop-slot
invariant-loop-slot l = all_from l.top 0 (used_stands (home_of l.n) (2 * l.n) l.cells l.codes l.next) ≡ all_from (l.top - l.slot) l.slot (used_stands (home_of l.n) (2 * l.n) l.cells l.codes l.next)
