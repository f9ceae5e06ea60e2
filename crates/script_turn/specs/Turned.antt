-- What carrying out a line leaves.
-- Assumes nothing.
use Rattle.std.specs.Prelude.{ℕ, Option, Some, None, Result, Ok, Err, ◌≡◌}
use Rattle.head.specs.declared.Head.{Head}
use Rattle.head.specs.declared.Answer.{Answer}
use Rattle.head.specs.declared.Answer.TheVariants.{No, Done}
use Rattle.head.specs.declared.Refusal.{Refusal}
use Rattle.head.specs.declared.Refusal.TheVariants.{NotUnderstood}
use Rattle.head.specs.Fields.{Fields}
use Rattle.model.specs.Perform.{Cache, opening, refused, opened}
use Rattle.store.specs.Acts.{Tails}
use Rattle.plan.specs.States.{State, Means}
use Rattle.door.specs.Served.{Calls}
use Rattle.opening.specs.Begun.{spacious}
use Rattle.script_read.specs.declared.Line.{Line}
use Rattle.script_read.specs.declared.Line.TheVariants.{Open, Call}

-- what opening says
abbrev pub begun : Result Head Refusal → Answer
begun (Ok fresh) = Done 0
begun (Err r) = No r

-- opened, the fresh cache is described and what lies past N slots stays; refused, nothing is touched
pub record Opening (kind c n : ℕ) (s t : State) (a : Answer) : Type 0 where
  pub opens : (x : Cache) → opening kind c n (spacious n s) ≡ opened x → (a ≡ Done 0) × Means t x × Tails n s.fields s.nexts s.prevs s.stack s.cells t.fields t.nexts t.prevs t.stack t.cells
  pub refuses : (e : Refusal) → opening kind c n (spacious n s) ≡ refused e → (a ≡ No e) × (t ≡ s)

-- an opening starts anew; a call is the door's; what is not understood touches nothing
abbrev pub Turns : Option Line → State → State → Fields → Fields → Answer → Type 0
Turns (Some (Open kind c n)) s t rows rows' a = Opening kind c n s t a × (rows' ≡ rows)
Turns (Some (Call m)) s t rows rows' a = Calls m s t rows rows' a
Turns None s t rows rows' a = (a ≡ No NotUnderstood) × (t ≡ s) × (rows' ≡ rows)
