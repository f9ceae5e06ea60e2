-- `door::call_within` meets its contract.
-- Assumes nothing.
use Rattle.door.proofs.Deciding.{sound_found, none_found}
use Rattle.door.proofs.Serving.{within_none}
use Rattle.door.proofs.call_within.Goals as goal

pub returns-then-not-inspect-clause-calls : goal.returns-then-not-inspect-clause-calls
returns-then-not-inspect-clause-calls c = within_none (none_found c.view.ensures c.inspect.ensures c.if-not-inspect.true)

pub step_within-requires : goal.step_within-requires
step_within-requires c = sound_found c.view.ensures c.inspect.ensures c.if-not-inspect.false
