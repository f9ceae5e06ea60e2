-- Each slot that the walk passes is below 16, and not ahead again.
use Rattle.test_table.proofs.Walks.{proper_on, proper_end}
use Rattle.test_table.proofs.proper.Goals as goal

pub loop-left-preserved : goal.loop-left-preserved
loop-left-preserved c = λ p. c.loop-left.invariant (proper_on _ _ _ c.loop-left-test.true c.if-at-ge-N.false (c.absent.ensures c.if-not-absent.false) p)

pub returns : goal.returns
returns c = λ e. c.loop-left.invariant (proper_end _ _ _ c.loop-left-test.false)
