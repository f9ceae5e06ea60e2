-- `door::step_within` meets its contract.
-- Assumes nothing.
use mathlib.Core.Path.{◌≡◌, refl, sym, subst}
use native.Mathlib.Omega.{arith}
use Rattle.state.specs.State.{held}
use Rattle.door.specs.Within.{lent}
use Rattle.store.specs.State.{Sound}
use Rattle.door.proofs.Deciding.{decided, prepared, offered, lent_by, handed_by}
use Rattle.door.proofs.Serving.{calls_within}
use Rattle.door.proofs.step_within.Goals as goal

pub decide-decision-requires : goal.decide-decision-requires
decide-decision-requires c = subst Sound (sym c.view-view.ensures) c.requires

pub hand_out-requires : goal.hand_out-requires
hand_out-requires c = offered _ (grind arith) (decided refl c.decide-decision.ensures) (subst Sound (sym c.view-view.ensures) c.requires)

pub act-requires : goal.act-requires
act-requires c = prepared (decided c.view-view.ensures c.decide-decision.ensures) c.requires

pub returns-clause-calls : goal.returns-clause-calls
returns-clause-calls c =
    let all : c.min.result ≡ lent c.args.room (held c.args.rows.now) = grind arith in
    calls_within (lent_by all (decided c.view-view.ensures c.decide-decision.ensures)) c.requires (handed_by c.view-view.ensures c.hand_out.ensures.handed) c.act.ensures.acted
