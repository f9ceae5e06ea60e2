-- `list::link_front` meets its contract.
-- Assumes nothing.
use Rattle.list.proofs.Fronting.{fronted}
use Rattle.list.proofs.link_front.Goals as goal

pub returns-clause-fronted : goal.returns-clause-fronted
returns-clause-fronted c = fronted _ _ _ _ _ _ _ _ c.put.ensures c.put-2.ensures c.put-3.ensures c.choose.ensures
