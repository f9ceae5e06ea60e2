-- `door::step` meets its contract.
-- Assumes nothing.
use Rattle.door.proofs.Serving.{calls}
use Rattle.door.proofs.step.Goals as goal

pub returns-clause-calls : goal.returns-clause-calls
returns-clause-calls c = calls c.room-room.ensures c.step_within.ensures.calls
