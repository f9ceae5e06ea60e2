-- A call with no more rows lent than a number says.
-- Assumes nothing.
use Rattle.std.specs.Prelude.{ℕ, min, List, ◌≡◌}
use Rattle.head.specs.declared.Row.{Row}
use Rattle.head.specs.declared.Answer.{Answer}
use Rattle.head.specs.declared.Answer.TheVariants.{No}
use Rattle.head.specs.declared.Refusal.TheVariants.{Unsound}
use Rattle.head.specs.declared.Command.{Command}
use Rattle.head.specs.Fields.{Fields}
use Rattle.head.specs.Forms.{form_of}
use Rattle.model.specs.Perform.{Cache, perform}
use Rattle.rows.specs.Written.{Written}
use Rattle.plan.specs.States.{State, Means, Sound}
use Rattle.door.specs.Served.{Serves, is_teller, if_taken, rows_taken, shortest}

-- how many rows are lent where there is room for so many: no more than the shortest row list holds
abbrev pub lent : ℕ → Fields → ℕ
lent room rows = min room (shortest rows)

-- a call that changes the cache: what `Calls` says, with no more rows lent than there is room for
pub record CallsWithin (m : Command) (room : ℕ) (s t : State) (rows rows' : Fields) (a : Answer) : Type 0 where
  pub serves : Serves m (lent room rows) s t a
  pub hands : (c : Cache) → Means s c → Written (perform m (lent room rows) c).rows rows rows'
  pub unsound : (Sound s → ⊥) → rows' ≡ rows

-- what `tell` answers, and the rows that it hands out, with so many lent
abbrev pub told_answer : Command → ℕ → Cache → Answer
told_answer m n c = if_taken (is_teller (form_of m)) (perform m n c).answer

abbrev pub told_rows : Command → ℕ → Cache → List Row
told_rows m n c = rows_taken (is_teller (form_of m)) (perform m n c).rows

-- a listing: what `Tells` says, with no more rows lent than there is room for
pub record TellsWithin (m : Command) (room : ℕ) (s : State) (rows rows' : Fields) (a : Answer) : Type 0 where
  pub answer : (c : Cache) → Means s c → a ≡ told_answer m (lent room rows) c
  pub hands : (c : Cache) → Means s c → Written (told_rows m (lent room rows) c) rows rows'
  pub unsound : (Sound s → ⊥) → (a ≡ No Unsound) × (rows' ≡ rows)
