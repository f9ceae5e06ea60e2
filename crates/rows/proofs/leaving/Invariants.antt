-- `rows::leaving` meets its contract: the loop of `proofs/Dropping.antt`. The measure is what is left, which falls by a cost of one or more.
-- Assumes nothing.
use Rattle.rows.proofs.Dropping.{Dropping}
use Rattle.rows.proofs.leaving.Given as goal

abbrev pub invariant-loop-left : goal.invariant-loop-left
invariant-loop-left l = Dropping l.weights l.prev l.budget l.skip.0 l.initial.left l.initial.slot.0 l.left l.slot.0 l.k

abbrev pub decreases-loop-left : goal.decreases-loop-left
decreases-loop-left l = l.left
