-- `inspect::cells_full` meets its contract: the steps are those of `proofs/Counts.antt`.
-- Assumes nothing.
use Prim.Native.Nat.{◌*◌}
use native.Mathlib.Omega.{arith}
use lib.Seq.{length-take-le}
use Rattle.inspect.proofs.Counts.{tally_start, tally_more, tally_stray, tally_all}
use Rattle.inspect.proofs.cells_full.Goals as goal

pub loop-cell-init : goal.loop-cell-init
loop-cell-init c = tally_start _ _

pub loop-cell-preserved : goal.loop-cell-preserved
loop-cell-preserved c = tally_more c.loop-cell.invariant c.from-full.ensures c.from-known.ensures (omega arith) (omega arith)

pub returns-then-full-known : goal.returns-then-full-known
returns-then-full-known c = tally_all c.loop-cell.invariant _ (omega (arith, length-take-le (2 * c.args.n) c.args.cells.now c.requires.1)) c.if-full-known.true

pub returns-else-full-known : goal.returns-else-full-known
returns-else-full-known c = tally_stray c.loop-cell.invariant _ (omega (arith, length-take-le (2 * c.args.n) c.args.cells.now c.requires.1)) c.if-full-known.false
