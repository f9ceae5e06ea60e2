-- `script_play::next_line` meets its contract.
-- Assumes nothing.
use Rattle.script_play.proofs.next_line.Goals as goal

pub returns-then-written : goal.returns-then-written
returns-then-written c = rw c.if-written.true

pub returns-else-written : goal.returns-else-written
returns-else-written c = rw c.if-written.false
