-- `table::remove` meets its contract. The invariant and the steps are those of `proofs/Shift.antt`. The measure: how far an empty cell is.
-- Assumes nothing.
use mathlib.Core.Path.{◌≡◌}
use lib.ListN.{get_or}
use Rattle.crc.specs.Home.{home_of}
use Rattle.table.specs.Cells.{cell_after}
use Rattle.table.proofs.Between.{far}
use Rattle.table.proofs.Shift.{Shifting, gap_of}
use Rattle.table.proofs.remove.Given as goal

abbrev pub invariant-loop-cells : goal.invariant-loop-cells
invariant-loop-cells l = (l.first ≡ cell_after l.m l.hole) × (Shifting (home_of l.n) l.m l.codes (get_or l.initial.cells l.cell 0) l.initial.cells l.cells l.hole l.at)

abbrev pub decreases-loop-cells : goal.decreases-loop-cells
decreases-loop-cells l = far l.m (gap_of l.m l.initial.cells) l.at
