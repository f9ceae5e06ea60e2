-- `inspect::cells_full` meets its contract: the invariant is `Tallying` of `proofs/Counts.antt`.
-- Assumes nothing.
use Rattle.inspect.proofs.Counts.{Tallying}
use Rattle.inspect.proofs.cells_full.Given as goal

abbrev pub invariant-loop-cell : goal.invariant-loop-cell
invariant-loop-cell l = Tallying l.cell-items l.n l.full l.known l.cell-index
