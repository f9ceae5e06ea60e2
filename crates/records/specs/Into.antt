-- A call whose rows go to a list of records too.
-- Assumes nothing.
use Rattle.std.specs.Prelude.{List, ◌++◌, ◌≡◌, length, drop}
use Rattle.head.specs.declared.Row.{Row}
use Rattle.head.specs.declared.Answer.{Answer}
use Rattle.head.specs.declared.Answer.TheVariants.{No}
use Rattle.head.specs.declared.Refusal.{Refusal}
use Rattle.head.specs.declared.Command.{Command}
use Rattle.head.specs.Fields.{Fields}
use Rattle.model.specs.Perform.{Cache, perform}
use Rattle.plan.specs.States.{State, Means}
pub use Rattle.door.specs.Within.{lent, CallsWithin, told_answer, told_rows, TellsWithin}

-- the rows stand at the beginning of the records now, in order, and past them nothing changed
abbrev pub laid : List Row → List Row → List Row
laid rows before = rows ++ drop (length rows) before

-- the rows that are handed out stand in the records; a refusal leaves these as they were
pub record Recorded (handed : Cache → List Row) (s : State) (before after : List Row) (a : Answer) : Type 0 where
  pub hands : (c : Cache) → Means s c → after ≡ laid (handed c) before
  pub refused : (q : Refusal) → a ≡ No q → after ≡ before

-- a call that changes the cache, with room for as many rows as there are records, and its rows in them
pub record CallsInto (m : Command) (s t : State) (rows rows' : Fields) (before after : List Row) (a : Answer) : Type 0 where
  pub calls : CallsWithin m (length before) s t rows rows' a
  pub records : Recorded (λ c. (perform m (lent (length before) rows) c).rows) s before after a

-- a listing, likewise
pub record TellsInto (m : Command) (s : State) (rows rows' : Fields) (before after : List Row) (a : Answer) : Type 0 where
  pub tells : TellsWithin m (length before) s rows rows' a
  pub records : Recorded (told_rows m (lent (length before) rows)) s before after a
