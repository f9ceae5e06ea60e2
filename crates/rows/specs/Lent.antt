-- What specs/Answers says, of a state that is lent to be read.
-- Assumes nothing.
use Rattle.std.specs.Prelude.{ℕ}
use Rattle.head.specs.declared.Rule.{Rule}
use Rattle.head.specs.Fields.{Fields}
use Rattle.state.specs.State.{State}
use Rattle.rows.specs.Answers as lists

-- before a call
abbrev pub Budgeted : State → ℕ → Type 0
Budgeted s skip = lists.Budgeted s.head s.fields.weights s.prevs skip

abbrev pub Read : State → Type 0
Read s = lists.Read s.head s.fields s.nexts

abbrev pub Aged : State → ℕ → ℕ → Fields → Type 0
Aged s k skip rows = lists.Aged s.head s.fields s.prevs k skip rows

abbrev pub Sweepable : State → Rule → Fields → Type 0
Sweepable s q rows = lists.Sweepable s.head s.fields s.nexts q rows

abbrev pub Listable : State → Fields → Type 0
Listable s rows = lists.Listable s.head s.fields s.nexts rows

abbrev pub ListableBack : State → Fields → Type 0
ListableBack s rows = lists.ListableBack s.head s.fields s.prevs rows

-- after it
abbrev pub Leaves : State → ℕ → ℕ → ℕ → Type 0
Leaves s b skip r = lists.Leaves s.head s.fields.weights s.prevs b skip r

abbrev pub Removes : State → Rule → ℕ → Type 0
Removes s q r = lists.Removes s.head s.fields s.nexts q r

abbrev pub WroteOldest : State → ℕ → ℕ → Fields → Fields → Type 0
WroteOldest s k skip rows rows' = lists.WroteOldest s.head s.fields s.prevs k skip rows rows'

abbrev pub WroteRemoved : State → Rule → Fields → Fields → Type 0
WroteRemoved s q rows rows' = lists.WroteRemoved s.head s.fields s.nexts q rows rows'

abbrev pub WroteAll : State → Fields → Fields → Type 0
WroteAll s rows rows' = lists.WroteAll s.head s.fields s.nexts rows rows'

abbrev pub WroteBack : State → Fields → Fields → Type 0
WroteBack s rows rows' = lists.WroteBack s.head s.fields s.prevs rows rows'
