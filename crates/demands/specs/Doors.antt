-- Runs at the doors that callers use: `door::call` of any command, and the lines of a script.
-- Assumes nothing.
use Rattle.std.specs.Prelude.{ℕ, List, [], ◌∷◌, Option, Some, None, ◌≡◌}
use Rattle.head.specs.declared.Answer.{Answer}
use Rattle.head.specs.declared.Answer.TheVariants.{Done}
use Rattle.head.specs.Fields.{Fields}
use Rattle.plan.specs.States.{State}
use Rattle.door.specs.Served.{Calls}
use Rattle.script_read.specs.declared.Line.{Line}
use Rattle.script_read.specs.declared.Line.TheVariants.{Open, Call}
use Rattle.script_read.specs.Grammar.{understood}
use Rattle.script_turn.specs.Turned.{Turns}
use Rattle.script_play.specs.Playing.{Lent, InTurn, none, more}
use Rattle.demands.specs.Runs.{Made}

-- ---- `door::call`

-- a run of `door::call` from the state s on: each call is handed the state that the call before left
abbrev pub DoorRun : State → List Made → Type 0
DoorRun s [] = Unit {0}
DoorRun s (a ∷ as') = Calls a.asked.command s a.left a.asked.rows a.rows a.answer × DoorRun a.left as'

-- ---- the script

-- a line carried out: the row lists at hand, what it answered, and the row lists and the state that it left
pub record Played : Type 0 where
  pub line : Option Line
  pub lent : Fields
  pub answer : Answer
  pub rows : Fields
  pub left : State

-- no opening, or one that was refused
abbrev pub GoesOn : Option Line → Answer → Type 0
GoesOn (Some (Open kind c n)) a = a ≡ Done 0 → ⊥
GoesOn (Some (Call m)) a = Unit {0}
GoesOn None a = Unit {0}

-- the turns of a script from the state s on, up to the next opening that is accepted
abbrev pub ScriptRun : State → List Played → Type 0
ScriptRun s [] = Unit {0}
ScriptRun s (a ∷ as') = Turns a.line s a.left a.lent a.rows a.answer × GoesOn a.line a.answer × ScriptRun a.left as'

-- the call that a line is, before those that follow
abbrev pub call_of : Option Line → Played → List Made → List Made
call_of (Some (Open kind c n)) a ms = ms
call_of (Some (Call m)) a ms = record { asked = record { command = m; rows = a.lent }; answer = a.answer; rows = a.rows; left = a.left } ∷ ms
call_of None a ms = ms

-- the calls among the lines of a script; refused openings and lines that are not understood are none
abbrev pub calls_in : List Played → List Made
calls_in [] = []
calls_in (a ∷ as') = call_of a.line a (calls_in as')

-- the state that the lines leave
abbrev pub last_of : State → List Played → State
last_of s [] = s
last_of s (a ∷ as') = last_of a.left as'

-- ---- the script program

-- the lines that `play` carried out in turn, each with what it was handed and what it left
unfoldable pub played_in : {ls : List (List ℕ)} {x z : Lent} {said : List Answer} → InTurn ls x said z → List Played
played_in none = []
played_in (more {l = l} {a = a} {x = x} {y = y} c r) =
    record { line = understood l; lent = x.rows; answer = a; rows = y.rows; left = y.state } ∷ played_in r

-- none of these lines is an opening that was accepted
abbrev pub AllGoOn : List Played → Type 0
AllGoOn [] = Unit {0}
AllGoOn (a ∷ as') = GoesOn a.line a.answer × AllGoOn as'
