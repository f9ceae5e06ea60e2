-- `list::choose` meets its contract.
-- Assumes nothing.
use borrow.Author.Tests.{lt-ltb, le-ltb}
use Rattle.list.specs.Steps.{choice}
use Rattle.list.proofs.choose.Goals as goal

pub returns-then-slot-n : goal.returns-then-slot-n
unfolding choice
returns-then-slot-n c = simp (lt-ltb _ _ c.if-slot-n.true)

pub returns-else-slot-n : goal.returns-else-slot-n
unfolding choice
returns-else-slot-n c = simp (le-ltb _ _ c.if-slot-n.false)
