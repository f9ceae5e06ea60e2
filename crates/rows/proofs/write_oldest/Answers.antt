-- `rows::write_oldest` meets its contract: the loop of `proofs/Ageing.antt`.
-- Assumes nothing.
use Rattle.state.proofs.Same.{rows_stay, rows_then, rows_wrote}
use Rattle.rows.proofs.Ageing.{age_start, age_inside, age_readable, age_linked, age_room, age_step, age_end}
use Rattle.rows.proofs.write_oldest.Goals as goal

pub loop-j-init : goal.loop-j-init
loop-j-init c = (rows_stay, age_start c.requires)

pub past-here-requires : goal.past-here-requires
past-here-requires c = age_inside c.loop-j.invariant.1 c.loop-j-test.true

pub read-requires : goal.read-requires
read-requires c = age_readable c.loop-j.invariant.1 c.loop-j-test.true _ c.past-here.ensures

pub write-requires : goal.write-requires
write-requires c = age_room c.loop-j.invariant.1 c.loop-j-test.true

pub ahead-oldest-requires : goal.ahead-oldest-requires
ahead-oldest-requires c = age_linked c.loop-j.invariant.1 c.loop-j-test.true _ c.past-here.ensures

pub loop-j-preserved : goal.loop-j-preserved
loop-j-preserved c = (
  rows_then c.loop-j.invariant.0 (rows_wrote c.write.ensures.lists c.write.ensures.wrote),
  age_step c.loop-j.invariant.1 c.loop-j-test.true _ _ _ _ c.past-here.ensures c.read.ensures c.write.ensures.wrote c.ahead-oldest.ensures,
)

pub returns-clause-lists : goal.returns-clause-lists
returns-clause-lists c = c.loop-j.invariant.0

pub returns-clause-wrote : goal.returns-clause-wrote
returns-clause-wrote c = age_end c.loop-j.invariant.1 c.loop-j-test.false
