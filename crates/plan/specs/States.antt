-- Two states that are the same but for the table's cells.
-- Assumes nothing.
use Rattle.std.specs.Prelude.{List, ◌≡◌, ℕ, ◌*◌}
use Rattle.head.specs.declared.Head.{Head}
use Rattle.head.specs.Fields.{Fields}
use Rattle.head.specs.Tails.{Tail}
use Rattle.model.specs.Perform.{Cache}
pub use Rattle.state.specs.State.{State, state}
pub use Rattle.store.specs.State.{Means, Sound}
pub use Rattle.store.specs.Acts.{TailsKept}

-- two states are the same, the table's cells excepted: of these, how many there are, and those past what N slots need
pub record Alike (s t : State) : Type 0 where
  pub head : t.head ≡ s.head
  pub fields : t.fields ≡ s.fields
  pub nexts : t.nexts ≡ s.nexts
  pub prevs : t.prevs ≡ s.prevs
  pub stack : t.stack ≡ s.stack
  pub cells : Tail (2 * s.head.slots) s.cells t.cells
