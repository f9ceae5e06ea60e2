-- `table::look` meets its contract. The invariant: the table is open, and `cell` is read as number `count`. The measure: cells not read yet.
-- Assumes nothing.
use mathlib.Core.Path.{◌≡◌}
use Prim.Native.Nat.{◌+◌, ◌-◌}
use Rattle.crc.specs.Home.{home_of}
use Rattle.table.proofs.Seek.{Seeking}
use Rattle.table.proofs.look.Given as goal

abbrev pub invariant-loop-code : goal.invariant-loop-code
invariant-loop-code l = (l.initial.cell ≡ home_of l.n l.code.0) × Seeking l.cells l.codes l.m l.initial.cell l.code.0 l.cell l.count

abbrev pub decreases-loop-code : goal.decreases-loop-code
decreases-loop-code l = l.m + 1 - l.count
