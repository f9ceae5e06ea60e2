-- `table::count_full` meets its contract: the loop's steps are those of `proofs/Tallies.antt`.
-- Assumes nothing.
use Rattle.table.proofs.Tallies.{Counting}
use Rattle.table.proofs.count_full.Given as goal

abbrev pub invariant-loop-cell : goal.invariant-loop-cell
invariant-loop-cell l = Counting l.cell-items l.top l.full l.cell-index
