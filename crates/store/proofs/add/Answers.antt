-- `store::add` meets its contract: the slot that the list gives is written, then put into the table.
-- Assumes nothing.
use Rattle.store.proofs.Writing.{admits_open, admits_writable, admits_slotted, added_ok}
use Rattle.store.proofs.add.Goals as goal

pub push_front-taken-requires : goal.push_front-taken-requires
push_front-taken-requires c = admits_open c.requires

pub write-requires : goal.write-requires
write-requires c = admits_writable c.requires _ _ _ _ c.push_front-taken.ensures.pushed

pub insert-requires : goal.insert-requires
insert-requires c = admits_slotted c.requires _ _ _ _ c.push_front-taken.ensures.pushed _ c.write.ensures.wrote

pub returns-clause-added : goal.returns-clause-added
returns-clause-added c =
    rw c.with_weight-state.ensures
    (added_ok c.requires _ _ _ _ c.push_front-taken.ensures.pushed _ _ c.write.ensures.wrote c.insert.ensures.inserted)
