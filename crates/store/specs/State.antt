-- The state as a whole: a head and its lent lists describe a value of `model`.
-- Assumes nothing.
use Rattle.std.specs.Prelude.{ℕ, ◌*◌, ◌<◌, List, [], ◌∷◌, ◌≡◌, length}
use Rattle.head.specs.declared.Head.{Head}
use Rattle.head.specs.declared.Row.{Row}
use Rattle.crc.specs.Home.{home_of}
use Rattle.model.specs.Codes.{count}
use Rattle.model.specs.Desk.{kind_number, entry, weighs}
use Rattle.model.specs.Perform.{Cache}
use Rattle.model.specs.Claims.{Lawful}
use Rattle.list.specs.Links.{Linked}
use Rattle.table.specs.Sound.{Sound as TableSound}
use Rattle.head.specs.Fields.{Fields, Reach}
pub use Rattle.state.specs.State.{fields}
use Rattle.state.specs.State.{State}
pub use Rattle.state.specs.Entries.{entry_in}

-- what an unused slot holds
abbrev pub blank : Row
blank = entry 0 0 0 0

-- what the slots of an order hold
abbrev pub gather : Fields → List ℕ → List Row
gather f [] = []
gather f (s ∷ ss) = entry_in f s ∷ gather f ss

-- head and lists describe exactly this cache
pub record Describes (h : Head) (f : Fields) (nx pv st cells : List ℕ) (c : Cache) : Type 0 where
  pub kind : h.kind ≡ kind_number c.desk.kind
  pub capacity : h.capacity ≡ c.desk.capacity
  pub room : h.slots ≡ c.desk.room
  pub weight : h.weight ≡ weighs c.desk.entries
  pub top : h.top.0 ≡ c.slots.top
  pub lawful : Lawful c.desk
  pub reach : Reach h.slots f
  pub links : Linked h nx pv st c.slots.order c.slots.free []
  pub entries : gather f c.slots.order ≡ c.desk.entries
  pub blanks : (u : ℕ) → u < h.slots → count u c.slots.order ≡ 0 → entry_in f u ≡ blank
  pub table : TableSound (home_of h.slots) (2 * h.slots) cells f.codes c.slots.order

-- the state describes this cache
abbrev pub Means : State → Cache → Type 0
Means s c = Describes s.head s.fields s.nexts s.prevs s.stack s.cells c

-- some cache is described
pub record Whole (h : Head) (f : Fields) (nx pv st cells : List ℕ) : Type 0 where
  pub cache : Cache
  pub described : Describes h f nx pv st cells cache

-- the state is sound: it describes some cache
abbrev pub Sound : State → Type 0
Sound s = Whole s.head s.fields s.nexts s.prevs s.stack s.cells

-- slot s alone changed: it holds e now
pub record Changed (s : ℕ) (e : Row) (f g : Fields) : Type 0 where
  pub size : length g.codes ≡ length f.codes
  pub new : entry_in g s ≡ e
  pub old : (u : ℕ) → (u ≡ s → ⊥) → entry_in g u ≡ entry_in f u
