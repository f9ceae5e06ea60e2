-- `list::put` meets its contract.
-- Assumes nothing.
use borrow.Author.Tests.{lt-ltb, le-ltb}
use Rattle.list.specs.Steps.{put_at}
use Rattle.list.proofs.put.Goals as goal

pub returns-then-at-n : goal.returns-then-at-n
unfolding put_at
returns-then-at-n c = simp (lt-ltb _ _ c.if-at-n.true)

pub returns-else-at-n : goal.returns-else-at-n
unfolding put_at
returns-else-at-n c = simp (le-ltb _ _ c.if-at-n.false)
