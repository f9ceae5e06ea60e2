-- `script_turn::carry_out` meets its contract.
-- Assumes nothing.
use mathlib.Core.Path.{refl, ap, ◌∙◌}
use Rattle.std.specs.Prelude.{Some}
use Rattle.script_turn.proofs.Turning.{opening_turns, turn_open, turn_call, turn_unknown}
use Rattle.script_turn.proofs.carry_out.Goals as goal

pub returns-in_default-clause-turns : goal.returns-in_default-clause-turns
returns-in_default-clause-turns c = turn_unknown c.in_default.is refl refl refl

pub returns-in-Open-clause-turns : goal.returns-in-Open-clause-turns
returns-in-Open-clause-turns c =
    turn_open (c.in-Some.is ∙ ap Some c.in-Open.is) (opening_turns c.open.ensures.opens c.open.ensures.head c.begin.ensures) refl

pub returns-in-Call-clause-turns : goal.returns-in-Call-clause-turns
returns-in-Call-clause-turns c = turn_call (c.in-Some.is ∙ ap Some c.in-Call.is) c.call.ensures.calls
