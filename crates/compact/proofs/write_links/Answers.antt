-- `compact::write_links` meets its contract. The invariant is `Writing`: each list as far as it is written.
-- Assumes nothing.
use Rattle.state.proofs.Same.{links_stay}
use Rattle.compact.proofs.Writing.{writing_first, writing_step, writing_last}
use Rattle.compact.proofs.write_links.Goals as goal

pub loop-i-init : goal.loop-i-init
loop-i-init c = (links_stay, writing_first _ _ _ _ _ _)

pub loop-i-preserved : goal.loop-i-preserved
loop-i-preserved c = (
  record { next = c.loop-i.invariant.0.next; prev = c.loop-i.invariant.0.prev; stack = c.loop-i.invariant.0.stack },
  writing_step _ _ _ _ _ _ _ _ _ _ _ _ _ c.requires c.loop-i.invariant.1 c.loop-i-test.true c.next_of.ensures c.prev_of.ensures c.stack_of.ensures,
)

pub returns-clause-written : goal.returns-clause-written
returns-clause-written c = writing_last _ _ _ _ _ _ _ _ _ _ c.loop-i.invariant.1 c.loop-i-test.false
