-- `act::place` meets its contract.
-- Assumes nothing.
use Rattle.act.proofs.Placing.{place_rich, place_admits, place_acted}
use Rattle.act.proofs.place.Goals as goal

pub evict-requires : goal.evict-requires
evict-requires c = place_rich c.requires

pub add-requires : goal.add-requires
add-requires c = place_admits c.requires c.evict.ensures.shed

pub returns-clause-acted : goal.returns-clause-acted
returns-clause-acted c = place_acted c.requires c.evict.ensures.shed c.add.ensures.added
