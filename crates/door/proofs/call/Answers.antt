-- `door::call` meets its contract.
-- Assumes nothing.
use Rattle.door.proofs.Serving.{calls}
use Rattle.door.proofs.call.Goals as goal

pub returns-clause-calls : goal.returns-clause-calls
returns-clause-calls c = calls c.room-room.ensures c.call_within.ensures.calls
