-- `act::replace` meets its contract.
-- Assumes nothing.
use Rattle.act.proofs.Placing.{replace_occupied, replace_prepared, replace_acted}
use Rattle.act.proofs.replace.Goals as goal

pub remove-requires : goal.remove-requires
remove-requires c = replace_occupied c.requires

pub place-requires : goal.place-requires
place-requires c = replace_prepared c.requires c.remove.ensures.dropped

pub returns-clause-acted : goal.returns-clause-acted
returns-clause-acted c = replace_acted c.requires c.remove.ensures.dropped c.place.ensures.acted
