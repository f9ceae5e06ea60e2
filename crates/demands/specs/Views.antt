-- What the numbers of a state and of the row lists show, read off without the definitions behind.
-- Assumes nothing.
use Rattle.std.specs.Prelude.{ℕ, List, take}
use Rattle.head.specs.declared.Row.{Row}
use Rattle.head.specs.Answers.{row_count}
use Rattle.model.specs.Codes.{codes_of}
use Rattle.head.specs.Walks.{walk}
use Rattle.store.specs.State.{gather}
use Rattle.plan.specs.States.{State}
use Rattle.demands.specs.Runs.{Made}

-- the live slots: as many as the head counts, from its front on, each link naming the next
abbrev pub slots_in : State → List ℕ
slots_in s = walk s.nexts s.head.front.0 s.head.live

-- what these slots hold, most recent first
abbrev pub entries_in : State → List Row
entries_in s = gather s.fields (slots_in s)

-- their codes
abbrev pub codes_in : State → List ℕ
codes_in s = codes_of (entries_in s)

-- the free stack: as many as the head counts
abbrev pub stack_in : State → List ℕ
stack_in s = take s.head.depth.0 s.stack

-- the codes of the rows that a call wrote: so many, from the beginning of the row lists
abbrev pub row_codes : Made → List ℕ
row_codes a = take (row_count a.answer) a.rows.codes
