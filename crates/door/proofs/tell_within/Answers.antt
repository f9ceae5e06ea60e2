-- `door::tell_within` meets its contract.
-- Assumes nothing.
use mathlib.Core.Path.{◌≡◌, refl}
use native.Mathlib.Omega.{arith}
use Rattle.state.specs.State.{held}
use Rattle.door.specs.Within.{lent}
use Rattle.door.specs.Served.{is_teller}
use Rattle.door.proofs.Deciding.{decided, offered, lent_by, sound_found, none_found, form_known}
use Rattle.door.proofs.Serving.{tells_within, told_none, told_other}
use Rattle.door.proofs.tell_within.Goals as goal

pub returns-then-not-inspect-clause-tells : goal.returns-then-not-inspect-clause-tells
returns-then-not-inspect-clause-tells c = told_none (none_found refl c.inspect.ensures c.if-not-inspect.true)

pub returns-then-not-is_teller-clause-tells : goal.returns-then-not-is_teller-clause-tells
returns-then-not-is_teller-clause-tells c =
    told_other (sound_found refl c.inspect.ensures c.if-not-inspect.false) (form_known is_teller c.is_teller.ensures c.form.ensures c.if-not-is_teller.true)

pub decide-decision-requires : goal.decide-decision-requires
decide-decision-requires c = sound_found refl c.inspect.ensures c.if-not-inspect.false

pub hand_out-requires : goal.hand_out-requires
hand_out-requires c =
    offered _ (grind arith) (decided refl c.decide-decision.ensures) (sound_found refl c.inspect.ensures c.if-not-inspect.false)

pub returns-clause-tells : goal.returns-clause-tells
returns-clause-tells c =
    let all : c.min.result ≡ lent c.args.room (held c.args.rows.now) = grind arith in
    tells_within (lent_by all (decided refl c.decide-decision.ensures)) (sound_found refl c.inspect.ensures c.if-not-inspect.false)
    c.hand_out.ensures.handed (form_known is_teller c.is_teller.ensures c.form.ensures c.if-not-is_teller.false)
