-- `list::remove` meets its contract.
-- Assumes nothing.
use Rattle.list.proofs.Calls.{held_room, held_stackable, removed}
use Rattle.list.proofs.remove.Goals as goal

pub unlink-loose-requires : goal.unlink-loose-requires
unlink-loose-requires c = held_room _ _ _ _ _ c.requires

pub release-requires : goal.release-requires
release-requires c = held_stackable _ _ _ _ _ c.requires _ _ _ _ c.unlink-loose.ensures.unlinked c.unlink-loose.ensures.stack

pub returns-clause-removed : goal.returns-clause-removed
returns-clause-removed c =
    removed _ _ _ _ _ c.requires _ _ _ _ c.unlink-loose.ensures.unlinked c.unlink-loose.ensures.stack _ _ _ _ c.release.ensures.released
