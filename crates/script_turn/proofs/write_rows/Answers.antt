-- `script_turn::write_rows` meets its contract.
-- Assumes nothing.
use Rattle.script_turn.proofs.Replying.{writing_start, row_there, writing_room, writing_step, writing_end}
use Rattle.script_turn.proofs.write_rows.Goals as goal

pub loop-j-init : goal.loop-j-init
loop-j-init c = writing_start c.requires.1

pub read-requires : goal.read-requires
read-requires c = row_there c.requires.0 c.loop-j-test.true

pub write_row-requires : goal.write_row-requires
write_row-requires c = writing_room c.requires.1 c.loop-j.invariant

pub loop-j-preserved : goal.loop-j-preserved
loop-j-preserved c = writing_step c.requires.1 c.loop-j.invariant c.loop-j-test.true c.read.ensures c.write_row.ensures

pub returns : goal.returns
returns c = writing_end c.requires.1 c.loop-j.invariant c.loop-j-test.false
