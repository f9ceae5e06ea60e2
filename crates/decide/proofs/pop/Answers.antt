-- `decide::pop` meets its contract.
-- Assumes nothing.
use Rattle.decide.proofs.Pointing.{found_reached}
use Rattle.decide.proofs.Finding.{says, if_absent, pop_found}
use Rattle.decide.proofs.pop.Goals as goal

pub returns-in_default : goal.returns-in_default
returns-in_default c = λ h code lent. if_absent lent _ _ c.in_default.is (says _ lent c.say.ensures)

pub bounds-values-slot : goal.bounds-values-slot
bounds-values-slot c = found_reached _ c.requires c.in-Found.is

pub returns : goal.returns
returns c = λ h code lent. pop_found lent c.in-Found.is
