-- A run of the public calls of crate cache: each call keeps its own contract, handed head and lists as the call before left them.
-- Assumes nothing.
use Rattle.std.specs.Prelude.{Result, Ok}
use Rattle.head.specs.declared.Refusal.{Refusal}
use Rattle.head.specs.declared.Head.{Head}
use Rattle.std.specs.Prelude.{ℕ, List, [], ◌∷◌, ◌≡◌}
use Rattle.head.specs.declared.Answer.{Answer}
use Rattle.head.specs.declared.Command.{Command}
use Rattle.head.specs.declared.Form.{Form}
use Rattle.head.specs.declared.Form.TheVariants.{Reading, Listing, Acting, Handing}
use Rattle.head.specs.Fields.{Fields}
use Rattle.head.specs.Forms.{form_of}
use Rattle.head.specs.Fresh.{fresh_head}
use Rattle.plan.specs.States.{State}
use Rattle.door.specs.Served.{Reads, Tells, Serves, Calls, shortest}
use Rattle.opening.specs.Begun.{Opens}

-- the contract of a call: from the state s to the state t, from the row lists `rows` to `rows'`, with the answer a; what a call does not take, it leaves
abbrev pub Contract : Form → Command → State → State → Fields → Fields → Answer → Type 0
Contract Reading m s t rows rows' a = Reads m s a × (t ≡ s) × (rows' ≡ rows)
Contract Listing m s t rows rows' a = Tells m s rows rows' a × (t ≡ s)
Contract Acting m s t rows rows' a = Serves m 0 s t a × (rows' ≡ rows)
Contract Handing m s t rows rows' a = Calls m s t rows rows' a

-- how many rows a call is lent: none where it takes no row lists
abbrev pub lent_to : Form → Fields → ℕ
lent_to Reading rows = 0
lent_to Listing rows = shortest rows
lent_to Acting rows = 0
lent_to Handing rows = shortest rows

-- a call asked for: its command, and the four row lists at hand
pub record Asked : Type 0 where
  pub command : Command
  pub rows : Fields

-- a call made: what was asked, what it answered, and the row lists and the state that it left
pub record Made : Type 0 where
  pub asked : Asked
  pub answer : Answer
  pub rows : Fields
  pub left : State

-- how many rows the call was lent
abbrev pub lent : Asked → ℕ
lent q = lent_to (form_of q.command) q.rows

-- the call, handed the state s, kept its contract
abbrev pub Step : State → Made → Type 0
Step s a = Contract (form_of a.asked.command) a.asked.command s a.left a.asked.rows a.rows a.answer

-- a run from the state s on: each call is handed the state that the call before left
abbrev pub Run : State → List Made → Type 0
Run s [] = Unit {0}
Run s (a ∷ as') = Step s a × Run a.left as'

-- the state that a run leaves
abbrev pub ending : State → List Made → State
ending s [] = s
ending s (a ∷ as') = ending a.left as'

-- what was asked in a run
abbrev pub asks : List Made → List Asked
asks [] = []
asks (a ∷ as') = a.asked ∷ asks as'

-- a run from opening: `open` of these numbers, on lists that hold anything, gave a cache, and the run goes on from there
pub record Day (kind c n : ℕ) : Type 0 where
  pub lists : State
  pub numbers : lists.head ≡ fresh_head kind c n
  pub begun : State
  pub said : Result Head Refusal
  pub opens : Opens kind c n lists begun said
  pub gave : said ≡ Ok begun.head
  pub calls : List Made
  pub run : Run begun calls
