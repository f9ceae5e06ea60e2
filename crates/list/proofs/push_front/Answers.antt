-- `list::push_front` meets its contract.
-- Assumes nothing.
use Rattle.list.proofs.Calls.{taken_room, pushed}
use Rattle.list.proofs.push_front.Goals as goal

pub link_front-requires : goal.link_front-requires
link_front-requires c = taken_room _ _ _ _ c.requires _ _ c.next.ensures

pub returns-clause-pushed : goal.returns-clause-pushed
returns-clause-pushed c =
    pushed _ _ _ _ c.requires _ _ c.next.ensures _ _ _ _ c.link_front.ensures.stack c.link_front.ensures.fronted
