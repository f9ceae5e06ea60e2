-- What carrying out a plan asks, what it leaves, and the rows that it writes.
-- Assumes nothing.
use Rattle.std.specs.Prelude.{ℕ, true, List, ◌≡◌, length}
use Rattle.head.specs.declared.Head.{Head}
use Rattle.head.specs.Fields.{Fields, Reach}
use Rattle.model.specs.Perform.{Cache}
use Rattle.store.specs.State.{Describes}
use Rattle.store.specs.Caches.{after}
use Rattle.rows.specs.Written.{Written}
use Rattle.plan.specs.declared.Plan.{Plan}
use Rattle.plan.specs.States.{State, Means, TailsKept}
use Rattle.plan.specs.Plans.{move_of, rows_of, Named, Ready, cells_stay}

-- some cache is described that is ready for the plan
pub record Prepared (p : Plan) (s : State) : Type 0 where
  pub cache : Cache
  pub means : Means s cache
  pub ready : Ready p cache

-- every described cache that is ready has changed by the plan's move; tails stay, and cells where the move lets them
pub record Acted (p : Plan) (s t : State) : Type 0 where
  pub tails : TailsKept s t
  pub cells : (c : Cache) → Ready p c → Means s c → cells_stay (move_of p c.slots.order) c.desk ≡ true → t.cells ≡ s.cells
  pub means : (c : Cache) → Ready p c → Means s c → Means t (after (move_of p c.slots.order) c)

-- the fields and the links are those of a cache
pub record Walked (h : Head) (f : Fields) (nx pv : List ℕ) (c : Cache) : Type 0 where
  pub stack : List ℕ
  pub cells : List ℕ
  pub described : Describes h f nx pv stack cells c

-- some cache has what the plan names, and there is room for the rows
pub record Offered (p : Plan) (h : Head) (f : Fields) (nx pv : List ℕ) (rows : Fields) : Type 0 where
  pub cache : Cache
  pub seen : Walked h f nx pv cache
  pub named : Named p cache
  pub room : Reach (length (rows_of p cache)) rows

-- the plan's rows are written
pub record HandedOut (p : Plan) (h : Head) (f : Fields) (nx pv : List ℕ) (rows rows' : Fields) : Type 0 where
  pub written : (c : Cache) → Named p c → Walked h f nx pv c → Written (rows_of p c) rows rows'

-- the same of a state that is lent to be read
abbrev pub OfferedBy : Plan → State → Fields → Type 0
OfferedBy p s rows = Offered p s.head s.fields s.nexts s.prevs rows

abbrev pub HandedOutBy : Plan → State → Fields → Fields → Type 0
HandedOutBy p s rows rows' = HandedOut p s.head s.fields s.nexts s.prevs rows rows'
