-- `records::tell` meets its contract: a listing within the records, and the rows saved.
-- Assumes nothing.
use Rattle.state.specs.State.{held, seen}
use Rattle.records.proofs.Recording.{tells_into, saved_of}
use Rattle.records.proofs.tell.Goals as goal

pub returns-clause-tells : goal.returns-clause-tells
returns-clause-tells c =
    let s = c.args in
    let w = c.tell_within-answer in
    tells_into s.command (seen s.view.now) (held s.rows.now) (held w.new.rows) w.result s.records.now c.save.new.records c.save.result
    (saved_of c.view.ensures c.rows.ensures c.save.ensures)
    w.ensures.tells
