-- `act::fit` meets its contract.
-- Assumes nothing.
use Rattle.act.proofs.Placing.{fit_rich, fit_holds, fit_acted}
use Rattle.act.proofs.fit.Goals as goal

pub evict-requires : goal.evict-requires
evict-requires c = fit_rich c.requires

pub resize-requires : goal.resize-requires
resize-requires c = fit_holds c.requires c.evict.ensures.shed

pub returns-clause-acted : goal.returns-clause-acted
returns-clause-acted c = fit_acted c.requires c.evict.ensures.shed c.resize.ensures.capped
