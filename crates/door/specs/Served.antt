-- What a call promises, on any head and lists: what the definitions say where a cache is described, refusal 2 and nothing touched where none is.
-- Assumes nothing.
use Rattle.std.specs.Prelude.{ℕ, Bool, true, false, cond, List, [], ◌≡◌}
use Rattle.head.specs.declared.Answer.{Answer}
use Rattle.head.specs.declared.Answer.TheVariants.{No}
use Rattle.head.specs.declared.Refusal.TheVariants.{Unsound, NotUnderstood}
use Rattle.head.specs.declared.Command.{Command}
use Rattle.head.specs.declared.Form.{Form}
use Rattle.head.specs.declared.Form.TheVariants.{Reading, Listing, Acting, Handing}
use Rattle.head.specs.declared.Row.{Row}
use Rattle.head.specs.Forms.{form_of}
use Rattle.head.specs.Fields.{Fields}
pub use Rattle.state.specs.Entries.{shortest}
use Rattle.model.specs.Perform.{Cache, verdict, handed, perform}
use Rattle.rows.specs.Written.{Written}
use Rattle.plan.specs.States.{State, Means, Sound, TailsKept}
use Rattle.plan.specs.Plans.{cells_stay}

-- the answer, the cache that is left, the tails, and the cells where the call moves none: as `perform` says of the cache c
pub record Follows (m : Command) (lent : ℕ) (s t : State) (a : Answer) (c : Cache) : Type 0 where
  pub answer : a ≡ (perform m lent c).answer
  pub left : Means t (perform m lent c).left
  pub tails : TailsKept s t
  pub cells : cells_stay (handed lent (verdict m c.desk)).move c.desk ≡ true → t.cells ≡ s.cells

-- a call with so many rows lent, its rows apart: from the state s to the state t with the answer a
pub record Serves (m : Command) (lent : ℕ) (s t : State) (a : Answer) : Type 0 where
  pub sound : (c : Cache) → Means s c → Follows m lent s t a c
  pub unsound : (Sound s → ⊥) → (a ≡ No Unsound) × (t ≡ s)

-- a call, whole: the state, the answer, and the rows
pub record Calls (m : Command) (s t : State) (rows rows' : Fields) (a : Answer) : Type 0 where
  pub serves : Serves m (shortest rows) s t a
  pub hands : (c : Cache) → Means s c → Written (perform m (shortest rows) c).rows rows rows'
  pub unsound : (Sound s → ⊥) → rows' ≡ rows

-- a call that `read` takes: it reads, and hands out no row
abbrev pub is_reader : Form → Bool
is_reader Reading = true
is_reader Listing = false
is_reader Acting = false
is_reader Handing = false

-- a call that `tell` takes: it reads, with rows or without
abbrev pub is_teller : Form → Bool
is_teller Reading = true
is_teller Listing = true
is_teller Acting = false
is_teller Handing = false

-- the answer of a call that is taken; one that is not is refused with 8
abbrev pub if_taken : Bool → Answer → Answer
if_taken taken a = cond taken a (No NotUnderstood)

-- the rows of a call that is taken; one that is not hands out none
abbrev pub rows_taken : Bool → List Row → List Row
rows_taken taken rows = cond taken rows []

-- a call on a state that is only read, without row lists
pub record Reads (m : Command) (s : State) (a : Answer) : Type 0 where
  pub sound : (c : Cache) → Means s c → a ≡ if_taken (is_reader (form_of m)) (perform m 0 c).answer
  pub unsound : (Sound s → ⊥) → a ≡ No Unsound

-- a call on a state that is only read, with row lists
pub record Tells (m : Command) (s : State) (rows rows' : Fields) (a : Answer) : Type 0 where
  pub answer : (c : Cache) → Means s c → a ≡ if_taken (is_teller (form_of m)) (perform m (shortest rows) c).answer
  pub hands : (c : Cache) → Means s c → Written (rows_taken (is_teller (form_of m)) (perform m (shortest rows) c).rows) rows rows'
  pub unsound : (Sound s → ⊥) → (a ≡ No Unsound) × (rows' ≡ rows)
