-- `table::count_full` meets its contract: the loop's steps are those of `proofs/Tallies.antt`.
-- Assumes nothing.
use Prim.Native.Nat.{◌*◌}
use native.Mathlib.Omega.{arith}
use lib.Seq.{length-take-le}
use Rattle.table.proofs.Tallies.{count_none, count_some, count_start, counted_all, counted_stray}
use Rattle.table.proofs.count_full.Goals as goal
use Rattle.table.proofs.count_full.Goals.{then-cell+else-top-cell, else-cell}

pub loop-cell-init : goal.loop-cell-init
loop-cell-init c = count_start _ _

pub returns-then-top-cell : goal.returns-then-top-cell
returns-then-top-cell c = counted_stray _ (omega arith) c.if-cell.true c.if-top-cell.true

pub loop-cell-preserved : goal.loop-cell-preserved
loop-cell-preserved c =
    elim c.if-cell.branch [
      | then-cell+else-top-cell w ↦ rw w.full-is (count_some (omega arith) c.loop-cell.invariant w.if-cell.true w.if-top-cell.false)
      | else-cell w ↦ rw w.full-is (count_none (omega arith) c.loop-cell.invariant w.if-cell.false)
    ]

pub returns : goal.returns
returns c = counted_all (omega (arith, length-take-le (2 * c.args.n) c.args.cells.now c.requires)) c.loop-cell.invariant
