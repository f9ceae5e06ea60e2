-- What the walk has passed is not the slot.
use Rattle.test_table.proofs.Walks.{ahead_on, ahead_end}
use Rattle.test_table.proofs.absent.Goals as goal

pub loop-left-preserved : goal.loop-left-preserved
loop-left-preserved c = λ h. ahead_on _ _ _ _ c.loop-left-test.true c.if-at-slot.false (c.loop-left.invariant h)

pub returns : goal.returns
returns c = λ e h. ahead_end _ _ _ _ c.loop-left-test.false (c.loop-left.invariant h)
