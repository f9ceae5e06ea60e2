-- `door::tell` meets its contract.
-- Assumes nothing.
use Rattle.door.proofs.Serving.{tells}
use Rattle.door.proofs.tell.Goals as goal

pub returns-clause-tells : goal.returns-clause-tells
returns-clause-tells c = tells c.room-room.ensures c.tell_within.ensures.tells
