-- `compact::arrange` meets its contract.
-- Assumes nothing.
use Rattle.compact.proofs.Numbering.{numbered_plannable, arranged}
use Rattle.compact.proofs.arrange.Goals as goal

pub plan-requires : goal.plan-requires
plan-requires c = numbered_plannable _ _ _ _ _ _ _ _ c.requires c.number.ensures.numbered

pub returns-clause-planned : goal.returns-clause-planned
returns-clause-planned c = arranged _ _ _ _ _ _ _ _ c.requires c.number.ensures.numbered _ _ c.plan.ensures.planned
