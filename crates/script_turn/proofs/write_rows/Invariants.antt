-- `script_turn::write_rows` meets its contract: the lines of the first j rows are added.
-- Assumes nothing.
use Rattle.state.specs.State.{viewed}
use Rattle.script_turn.proofs.Replying.{Writing}
use Rattle.script_turn.proofs.write_rows.Given as goal

abbrev pub invariant-loop-j : goal.invariant-loop-j
invariant-loop-j l = Writing l.stay (viewed l.rows) l.n l.initial.text l.text l.j
