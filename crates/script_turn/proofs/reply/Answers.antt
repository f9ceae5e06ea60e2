-- `script_turn::reply` meets its contract: the rows, then the closing line.
-- Assumes nothing.
use mathlib.Core.Path.{◌≡◌}
use native.Mathlib.Omega.{arith}
use Rattle.std.proofs.Common.{rules}
use Rattle.state.specs.State.{viewed}
use Rattle.script_turn.specs.Replies.{shown}
use Rattle.script_turn.proofs.Replying.{closing_room, replied_as, roomy_as}
use Rattle.script_turn.proofs.reply.Goals as goal

pub write_answer-requires : goal.write_answer-requires
write_answer-requires c =
    let e : c.min-n.result ≡ shown c.args.answer (viewed c.args.rows.now) = grind arith in
    closing_room c.args.stay (viewed c.args.rows.now) c.min-n.result (omega (arith, (roomy_as c.args.answer (viewed c.args.rows.now) e c.requires).room)) c.write_rows.ensures

pub returns : goal.returns
returns c =
    let e : c.min-n.result ≡ shown c.args.answer (viewed c.args.rows.now) = grind arith in
    let a = replied_as c.args.stay (viewed c.args.rows.now) c.args.answer e c.write_rows.ensures c.write_answer.ensures in
    search rules
