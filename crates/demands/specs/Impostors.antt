-- The impostors of document 01: for each, a sound state and a call at which its outcome contradicts the contract, whatever else it does.
-- `state₂` holds 2 in front of 1 and is full (C = 2); one row is lent.
-- Assumes nothing.
use Rattle.std.specs.Prelude.{ℕ, ◌*◌, ◌≤◌, false, ◌≡◌, length}
use Rattle.head.specs.declared.Answer.{Answer}
use Rattle.head.specs.declared.Answer.TheVariants.{No, New}
use Rattle.head.specs.declared.Command.TheVariants.{Put, Retain}
use Rattle.head.specs.declared.Refusal.{Refusal}
use Rattle.head.specs.declared.Rule.{Rule}
use Rattle.head.specs.Fields.{Fields}
use Rattle.head.specs.Rules.{code_rule, rule_of}
use Rattle.crc.specs.Home.{home_of}
use Rattle.model.specs.Codes.{has}
use Rattle.table.specs.declared.Search.{Search}
use Rattle.table.specs.Cells.{sought, count_in}
use Rattle.plan.specs.States.{State}
use Rattle.door.specs.Served.{Calls}
use Rattle.demands.specs.Views.{codes_in}
use Rattle.demands.specs.Samples.{state₂, state₄, row, code}

-- refuses always: a `put` of 1, which is there, is not refused
abbrev pub RefusesAlways : Type 0
RefusesAlways = (t : State) (rows' : Fields) (r : Refusal) → Calls (Put (code 1) 0 11) state₂ t (row 0 0) rows' (No r) → ⊥

-- says "new" always: that `put` is not answered "new"
abbrev pub SaysNew : Type 0
SaysNew = (t : State) (rows' : Fields) (k : ℕ) → Calls (Put (code 1) 0 11) state₂ t (row 0 0) rows' (New k) → ⊥

-- stores nothing: after a `put` of 3, which is absent, 3 is there
abbrev pub StoresNothing : Type 0
StoresNothing = (t : State) (rows' : Fields) (a : Answer) → Calls (Put (code 3) 0 30) state₂ t (row 0 0) rows' a → has 3 (codes_in t) ≡ false → ⊥

-- empties the cache on any eviction: after that `put`, which pushes one out, more than one is left
abbrev pub EmptiesAll : Type 0
EmptiesAll = (t : State) (rows' : Fields) (a : Answer) → Calls (Put (code 3) 0 30) state₂ t (row 0 0) rows' a → length (codes_in t) ≤ 1 → ⊥

-- keeps code 1 alone
abbrev pub only_one : Rule
only_one = rule_of code_rule 1 1

-- a sweep that lists rows and removes none: after `retain` of code 1 alone, the codes are not what they were
abbrev pub RemovesNone : Type 0
RemovesNone = (t : State) (rows' : Fields) (a : Answer) → Calls (Retain only_one) state₂ t (row 0 0) rows' a → codes_in t ≡ codes_in state₂ → ⊥

-- invents the cell count: on the cells of `state₄`, the search for 9 reads three
abbrev pub InventsCount : Type 0
InventsCount = (r : Search) → r ≡ sought (home_of 2) (2 * 2) state₄.cells state₄.fields.codes 9 → (count_in r ≡ 3 → ⊥) → ⊥
