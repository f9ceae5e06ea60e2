-- Decisions that need a few numbers only.
-- Assumes nothing.
use Rattle.std.specs.Prelude.{ℕ, ◌<◌, true, false, cond, ◌&&◌, List, length, ◌==◌, ◌≢◌, nat_le, slice_index}
use Rattle.head.specs.declared.Head.{Head}
use Rattle.head.specs.declared.Slot.{Slot}
use Rattle.head.specs.declared.Row.{Row}
use Rattle.head.specs.declared.Answer.{Answer}
use Rattle.head.specs.declared.Answer.TheVariants.{Was, Now, Absent, Entry}
use Rattle.head.specs.declared.Refusal.TheVariants.{WrongKind, NoSlot, TooFewRows}
use Rattle.head.specs.Bounds.{none_mark, plain_kind}
use Rattle.head.specs.Fields.{Fields}
use Rattle.model.specs.Desk.{entry}
use Rattle.model.specs.Calls.{sum64}
use Rattle.table.specs.declared.Search.{Search}
use Rattle.table.specs.declared.Search.TheVariants.{Found, Empty}
use Rattle.store.specs.State.{entry_in}
use Rattle.store.specs.Acts.{Writable}
use Rattle.plan.specs.declared.Decision.{Decision}
use Rattle.plan.specs.declared.Plan.TheVariants.{Set, Renew, Drop, Place}
use Rattle.plan.specs.Plans.{said, denied}

-- 6 where the rows are more than lent
abbrev pub fitted : ℕ → ℕ → Decision → Decision
fitted lent k r = cond (nat_le k lent) r (denied TooFewRows)

-- a new row comes in after k leave: 5 where every slot is taken and none leaves, then 6
abbrev pub admitted : Head → ℕ → ℕ → Row → Answer → Decision
admitted h lent k e a = cond (h.live == h.slots && k == 0) (denied NoSlot) (fitted lent k (record { answer = a; plan = Place k e }))

-- how many a new code pushes out of a plain cache
abbrev pub pushes : Head → ℕ
pushes h = cond (h.live == h.capacity) 1 0

-- an absent code comes in with an amount
abbrev pub entered : Head → ℕ → ℕ → ℕ → ℕ → Decision
entered h lent code stamp n = admitted h lent (pushes h) (entry code stamp n 0) (Now n true (pushes h))

-- the entry in a slot has an amount added to its value
abbrev pub modified : Slot → ℕ → ℕ → Decision
modified s old n = record { answer = Now (sum64 old n) false 0; plan = Renew s (sum64 old n) }

-- the slot at an end is none, or the fields reach it
abbrev pub Ending : ℕ → Fields → Type 0
Ending s f = (s ≢ none_mark) → Writable s f

-- the slot at an end is none, or the values reach it
abbrev pub Readable : ℕ → List ℕ → Type 0
Readable s values = (s ≢ none_mark) → s < length values

-- a search found no slot, or the values reach it
abbrev pub Reached : Search → List ℕ → Type 0
Reached (Found s cell count) values = s.0 < length values
Reached (Empty cell count) values = Unit {0}

-- the entry at an end is shown
abbrev pub shown : Fields → Slot → Decision
shown f s = cond (s.0 == none_mark) (said Absent) (said (Entry (entry_in f s.0)))

-- the entry at an end is shown and leaves
abbrev pub popped : Fields → Slot → Decision
popped f s = cond (s.0 == none_mark) (said Absent) (record { answer = Entry (entry_in f s.0); plan = Drop s })

-- the entry at an end takes a value, on a plain cache
abbrev pub assigned : ℕ → List ℕ → Slot → ℕ → Decision
assigned kind values s v =
    cond (kind == plain_kind)
    (cond (s.0 == none_mark) (said Absent) (record { answer = Was (slice_index values s.0) 0; plan = Set s v }))
    (denied WrongKind)
