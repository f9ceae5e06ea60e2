-- What a sweep leaves.
-- Assumes nothing.
use Rattle.std.specs.Prelude.{ℕ, Bool, true, false, [], ◌≡◌}
use Rattle.head.specs.declared.Rule.{Rule}
use Rattle.model.specs.Lists.{marked, others}
use Rattle.model.specs.Desk.{marks}
use Rattle.model.specs.Moves.{sweep}
use Rattle.model.specs.Perform.{Cache}
use Rattle.state.specs.State.{State}
use Rattle.store.specs.State.{Means}
use Rattle.store.specs.Caches.{after}
use Rattle.store.specs.Acts.{TailsKept, Dropped}

-- the entry in the slot is kept, and nothing has changed, or has left
pub record Judged (s t : State) (slot : ℕ) (keep : Bool) : Type 0 where
  pub kept : keep ≡ true → t ≡ s
  pub dropped : keep ≡ false → Dropped s t slot

-- those that the rule does not keep have left; where there are none, the cells are as they were
pub record Swept (s t : State) (q : Rule) : Type 0 where
  pub tails : TailsKept s t
  pub described : (c : Cache) → Means s c → Means t (after (sweep q) c)
  pub table : (c : Cache) → marked (others (marks q c.desk.entries)) c.desk.entries ≡ [] → Means s c → t.cells ≡ s.cells
