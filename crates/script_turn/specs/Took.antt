-- One line, from its bytes to the text of its answer.
-- Assumes nothing.
use Rattle.std.specs.Prelude.{ℕ, suc, ◌*◌, ◌≤◌, List, Option, length}
use Rattle.head.specs.declared.Answer.{Answer}
use Rattle.head.specs.Fields.{Fields}
use Rattle.plan.specs.States.{State}
use Rattle.door.specs.Served.{shortest}
use Rattle.script_digits.specs.Laid.{Laid}
use Rattle.script_write.specs.Lines.{most_line}
use Rattle.script_read.specs.declared.Line.{Line}
use Rattle.script_turn.specs.Turned.{Turns}
use Rattle.script_turn.specs.Replies.{listed, replied}

-- the buffer has room for the lines of all rows lent and one more
pub record Takes (rows : Fields) (out : List ℕ) : Type 0 where
  pub room : suc (shortest rows) * most_line ≤ length out

-- the line is carried out, and the text of its answer stands at the beginning of the buffer
pub record Took (l : Option Line) (s t : State) (rows rows' : Fields) (a : Answer) (size : ℕ) (out out' : List ℕ) : Type 0 where
  pub turns : Turns l s t rows rows' a
  pub text : Laid 0 (replied (listed l) rows' a) size out out'
