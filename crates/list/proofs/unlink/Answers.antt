-- `list::unlink` meets its contract.
-- Assumes nothing.
use mathlib.Core.Path.{refl}
use Rattle.list.proofs.Unlinking.{unlinked}
use Rattle.list.proofs.unlink.Goals as goal

pub returns-clause-unlinked : goal.returns-clause-unlinked
returns-clause-unlinked c = unlinked _ _ _ _ _ _ _ _ _ _ refl refl c.put.ensures c.put-2.ensures c.choose.ensures c.choose-2.ensures
