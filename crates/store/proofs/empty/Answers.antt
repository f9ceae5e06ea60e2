-- `store::empty` meets its contract.
-- Assumes nothing.
use Rattle.store.proofs.Emptied.{emptied_ok}
use Rattle.store.proofs.empty.Goals as goal

pub fill-requires : goal.fill-requires
fill-requires c = c.requires.reach.codes

pub fill-requires-2 : goal.fill-requires-2
fill-requires-2 c = c.requires.reach.stamps

pub fill-requires-3 : goal.fill-requires-3
fill-requires-3 c = c.requires.reach.values

pub fill-requires-4 : goal.fill-requires-4
fill-requires-4 c = c.requires.reach.weights

pub clear-requires : goal.clear-requires
clear-requires c = c.requires.table

pub clear-left-requires : goal.clear-left-requires
clear-left-requires c = c.requires.links

pub returns-clause-emptied : goal.returns-clause-emptied
returns-clause-emptied c =
    rw c.with_weight-state.ensures
    (emptied_ok _ _ _ _ _ _ _ _ _ _ _ _ c.requires c.fill.ensures c.fill-2.ensures c.fill-3.ensures c.fill-4.ensures c.clear.ensures c.clear-left.ensures.cleared)
