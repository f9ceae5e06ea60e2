-- Runs of the exported functions: lists of numbers in, lists of numbers out.
-- Assumes nothing.
use Rattle.std.specs.Prelude.{ℕ, ◌≤◌, Bool, true, false, cond, List, [], ◌∷◌, ◌≡◌, length}
use Rattle.head.specs.declared.Head.{Head}
use Rattle.head.specs.Fields.{Fields}
use Rattle.head.specs.Forms.{form_of}
use Rattle.plan.specs.States.{State}
use Rattle.door.specs.Served.{is_teller}
use Rattle.layout.specs.Heads.{head_in, head_of}
use Rattle.layout.specs.Commands.{command_in}
use Rattle.exports.specs.Exchange.{Reading, Calling}
use Rattle.demands.specs.Runs.{Made}

-- what the exported functions are lent of a cache: the head's list and the eight lists
pub record Lists : Type 0 where
  pub head : List ℕ
  pub fields : Fields
  pub nexts : List ℕ
  pub prevs : List ℕ
  pub stack : List ℕ
  pub cells : List ℕ

-- the eight lists with a head, as a state
abbrev pub under : Head → Lists → State
under h w = record { head = h; fields = w.fields; nexts = w.nexts; prevs = w.prevs; stack = w.stack; cells = w.cells }

-- the state that the lists hold, where the head's list is long enough
abbrev pub found : Lists → State
found w = under (head_in w.head) w

-- a call made: by `weavestall_read` or by `weavestall_call`; the lists of command and answer and the row lists at entry; the number returned, and all that it left
pub record Sent : Type 0 where
  pub reads : Bool
  pub command : List ℕ
  pub answer : List ℕ
  pub lent : Fields
  pub number : ℕ
  pub answered : List ℕ
  pub rows : Fields
  pub left : Lists

-- the function that was called kept its contract
abbrev pub Kept : Bool → Lists → Sent → Type 0
Kept true w x =
    Reading (command_in x.command) (under (head_of w.head (length x.answer)) w) x.lent x.rows x.answer x.answered x.number
    × (x.left ≡ w)
Kept false w x =
    Calling (command_in x.command) (under (head_of w.head (length x.answer)) w) x.left.fields.codes x.left.fields.stamps x.left.fields.values x.left.fields.weights x.left.nexts x.left.prevs x.left.stack x.left.cells x.lent x.rows w.head x.left.head x.answer x.answered x.number

-- a run: each call is handed the lists that the call before left, and a list with room for its answer
abbrev pub ExportRun : Lists → List Sent → Type 0
ExportRun w [] = Unit {0}
ExportRun w (x ∷ xs) = (8 ≤ length x.answer) × Kept x.reads w x × ExportRun x.left xs

-- the call that was made, before those that follow; what `weavestall_read` refuses since it does not read is none
abbrev pub made_by : (b : Bool) (w : Lists) (x : Sent) → Kept b w x → List Made → List Made
made_by true w x k ms =
    cond (is_teller (form_of (command_in x.command)))
    (record { asked = record { command = command_in x.command; rows = x.lent }; answer = k.0.said; rows = x.rows; left = found w } ∷ ms)
    ms
made_by false w x k ms =
    record { asked = record { command = command_in x.command; rows = x.lent }; answer = k.said; rows = x.rows; left = under k.left x.left } ∷ ms

-- the calls of a run
abbrev pub made_in : (w : Lists) (xs : List Sent) → ExportRun w xs → List Made
made_in w [] r = []
made_in w (x ∷ xs) r = made_by x.reads w x r.1 (made_in x.left xs r.2)
