-- `list::release` meets its contract.
-- Assumes nothing.
use Rattle.list.proofs.Stacking.{released}
use Rattle.list.proofs.release.Goals as goal

pub returns-clause-released : goal.returns-clause-released
returns-clause-released c = released _ _ _ _ _ _ _ _ c.put.ensures c.put-2.ensures c.put-3.ensures
