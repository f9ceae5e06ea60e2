-- `list::clear` meets its contract.
-- Assumes nothing.
use Rattle.list.proofs.Filling.{cleared}
use Rattle.list.proofs.clear.Goals as goal

pub returns-clause-cleared : goal.returns-clause-cleared
returns-clause-cleared c = cleared _ _ _ _ _ _ _ c.requires c.fill.ensures c.fill-2.ensures c.fill-3.ensures
