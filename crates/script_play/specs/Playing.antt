-- What playing an input needs, and what it comes to: the lines carried out, one after another.
-- Assumes nothing.
use Rattle.std.specs.Prelude.{ℕ, suc, ◌*◌, ◌≤◌, Bool, true, List, [], ◌∷◌, ◌≡◌, length, take}
use Rattle.head.specs.declared.Answer.{Answer}
use Rattle.head.specs.Fields.{Fields}
use Rattle.plan.specs.States.{State}
use Rattle.door.specs.Served.{shortest}
use Rattle.script_write.specs.Lines.{most_line}
use Rattle.script_read.specs.Grammar.{understood}
use Rattle.script_turn.specs.Took.{Took}
use Rattle.script_play.specs.Cutting.{lines_of}

-- n bytes of the input are lines, and the buffer has room for the lines of all rows lent and one more
pub record Plays (input : List ℕ) (n : ℕ) (rows : Fields) (out : List ℕ) : Type 0 where
  pub inside : n ≤ length input
  pub short : n ≤ 32768
  pub room : suc (shortest rows) * most_line ≤ length out

-- all that a line is handed: a head and its lists, the row lists, and the buffer for its text
pub record Lent : Type 0 where
  pub state : State
  pub rows : Fields
  pub out : List ℕ

-- so gathered
abbrev pub handed : State → Fields → List ℕ → Lent
handed s rows out = record { state = s; rows = rows; out = out }

-- a line carried out, from x to y: what `take` promises of it
abbrev pub Carried : List ℕ → Lent → Answer → ℕ → Lent → Type 0
Carried l x a size y = Took (understood l) x.state y.state x.rows y.rows a size x.out y.out

-- lines carried out in turn, from x to z: each is handed what the line before it left, and has its answer
pub data InTurn : List (List ℕ) → Lent → List Answer → Lent → Type 0 where
  none : {x : Lent} → InTurn [] x [] x
  more : {l : List ℕ} {ls : List (List ℕ)} {a : Answer} {said : List Answer} {size : ℕ} {x y z : Lent}
      → Carried l x a size y
      → InTurn ls y said z
      → InTurn (l ∷ ls) x (a ∷ said) z

-- the first lines of the input were carried out from x to y; all of them, where every answer was written
pub record Played (input : List ℕ) (n : ℕ) (x y : Lent) (written : Bool) : Type 0 where
  pub count : ℕ
  pub answers : List Answer
  pub turns : InTurn (take count (lines_of (take n input))) x answers y
  pub whole : written ≡ true → length (lines_of (take n input)) ≤ count
