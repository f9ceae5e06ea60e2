-- `records::call` meets its contract: a call within the records, and the rows saved.
-- Assumes nothing.
use Rattle.state.specs.State.{lent, held}
use Rattle.records.proofs.Recording.{calls_into, saved_of}
use Rattle.records.proofs.call.Goals as goal

pub returns-clause-calls : goal.returns-clause-calls
returns-clause-calls c =
    let s = c.args in
    let w = c.call_within-answer in
    calls_into s.command (lent s.state.now) (held s.rows.now) (held w.new.rows) w.result s.records.now c.save.new.records c.save.result
    (saved_of c.view.ensures c.rows.ensures c.save.ensures)
    w.ensures.calls
