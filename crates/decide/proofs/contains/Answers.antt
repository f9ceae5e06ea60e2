-- `decide::contains` meets its contract.
-- Assumes nothing.
use Rattle.decide.proofs.Finding.{contains_none, contains_some}
use Rattle.decide.proofs.contains.Goals as goal

pub returns-in_default : goal.returns-in_default
returns-in_default c = λ h values code lent. contains_none lent c.in_default.is c.say.ensures

pub returns : goal.returns
returns c = λ h values code lent. contains_some lent c.in-Found.is c.say-2.ensures
