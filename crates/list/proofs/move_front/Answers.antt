-- `list::move_front` meets its contract.
-- Assumes nothing.
use Rattle.list.proofs.Calls.{moved}
use Rattle.list.proofs.move_front.Goals as goal

pub returns-clause-moved : goal.returns-clause-moved
returns-clause-moved c = moved _ _ _ _ _ _ _ _ _ _ c.unlink-loose.ensures.unlinked c.link_front.ensures.fronted
