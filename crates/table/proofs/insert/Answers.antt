-- `table::insert` meets its contract: the cell that the search names is one of the 2n.
-- Assumes nothing.
use mathlib.Core.Path.{sym}
use Prim.Native.Nat.{◌*◌, ◌<◌}
use native.Mathlib.Omega.{arith}
use Rattle.crc.proofs.Homes.{home_lt}
use Rattle.table.proofs.Found.{empty_at}
use Rattle.table.proofs.insert.Goals as goal
use Rattle.table.proofs.insert.Goals.{In-Empty}

inside : (c : In-Empty) → c.in-Empty.cell < 2 * c.args.n
inside c =
    (empty_at _ _ _ _ _ c.requires.table (home_lt (omega (arith, c.requires.table.gap_in)) _) (sym c.in-Empty.ensures)).cell_in

pub offset_bounds-cells-cell : goal.offset_bounds-cells-cell
offset_bounds-cells-cell c = omega (arith, inside (goal.at.offset_bounds-cells-cell c).In-Empty, c.requires.table.wide)

pub bounds-cells-cell : goal.bounds-cells-cell
bounds-cells-cell c = omega (arith, inside (goal.at.bounds-cells-cell c).In-Empty, c.requires.table.wide)
