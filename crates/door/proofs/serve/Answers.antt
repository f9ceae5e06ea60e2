-- `door::serve` meets its contract.
-- Assumes nothing.
use mathlib.Core.Path.{refl}
use Rattle.door.proofs.Deciding.{decided, prepared, sound_found, none_found}
use Rattle.door.proofs.Serving.{serves, serves_none}
use Rattle.door.proofs.serve.Goals as goal

pub returns-then-not-inspect-clause-serves : goal.returns-then-not-inspect-clause-serves
returns-then-not-inspect-clause-serves c = serves_none (none_found c.view-view.ensures c.inspect.ensures c.if-not-inspect.true)

pub decide-decision-requires : goal.decide-decision-requires
decide-decision-requires c = sound_found refl c.inspect.ensures c.if-not-inspect.false

pub act-requires : goal.act-requires
act-requires c = prepared (decided c.view-view.ensures c.decide-decision.ensures) (sound_found c.view-view.ensures c.inspect.ensures c.if-not-inspect.false)

pub returns-clause-serves : goal.returns-clause-serves
returns-clause-serves c =
    serves (decided c.view-view.ensures c.decide-decision.ensures) (sound_found c.view-view.ensures c.inspect.ensures c.if-not-inspect.false) c.act.ensures.acted
