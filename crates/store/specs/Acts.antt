-- What each act asks, and what it leaves: for every cache that is described at entry.
-- Assumes nothing.
use Rattle.std.specs.Prelude.{ℕ, ◌*◌, ◌≤◌, ◌<◌, List, [], ◌∷◌, ◌≡◌}
use lib.ListN.{length}
pub use Rattle.state.specs.Entries.{Writable, Wrote}
use Rattle.head.specs.declared.Row.{Row}
use Rattle.head.specs.Tails.{Tail}
use Rattle.model.specs.Lists.{only}
use Rattle.model.specs.Moves.{drop}
use Rattle.model.specs.Perform.{Cache}
use Rattle.model.specs.Claims.{spent}
use Rattle.head.specs.Bounds.{most_capacity}
use Rattle.crc.specs.Home.{home_of}
use Rattle.list.specs.Links.{Long, Linked}
use Rattle.table.specs.Sound.{Sound}
use Rattle.head.specs.Fields.{Fields, Reach}
use Rattle.state.specs.State.{State}
use Rattle.store.specs.State.{entry_in, blank, Means}
use Rattle.model.specs.Codes.{count, codes_of}
use Rattle.model.proofs.Lawful.{Takes}
use Rattle.store.specs.Caches.{after, added, shed, capped}

-- past the first n slots, and the first 2n cells, nothing changed
pub record Tails (n : ℕ) (f : Fields) (nx pv st cells : List ℕ) (g : Fields) (nx' pv' st' cells' : List ℕ) : Type 0 where
  pub codes : Tail n f.codes g.codes
  pub stamps : Tail n f.stamps g.stamps
  pub values : Tail n f.values g.values
  pub weights : Tail n f.weights g.weights
  pub nexts : Tail n nx nx'
  pub prevs : Tail n pv pv'
  pub stacks : Tail n st st'
  pub table : Tail (2 * n) cells cells'

-- past what N slots need, nothing changed
abbrev pub TailsKept : State → State → Type 0
TailsKept s t = Tails s.head.slots s.fields s.nexts s.prevs s.stack s.cells t.fields t.nexts t.prevs t.stack t.cells

-- some cache is described, and the slot holds one of its entries
pub record Occupied (s : State) (slot : ℕ) : Type 0 where
  pub cache : Cache
  pub described : Means s cache
  pub place : ℕ
  pub there : only place cache.slots.order ≡ slot ∷ []

-- the entry in the slot has left
pub record Dropped (s t : State) (slot : ℕ) : Type 0 where
  pub tails : TailsKept s t
  pub described : (c : Cache) (i : ℕ) → only i c.slots.order ≡ slot ∷ [] → Means s c → Means t (after (drop i) c)

-- some cache is described that takes a new entry: it fits, there is a slot for it, and its code is absent
pub record Admits (s : State) (e : Row) : Type 0 where
  pub cache : Cache
  pub described : Means s cache
  pub takes : Takes cache.desk e cache.desk.entries
  pub absent : count e.code.0 (codes_of cache.desk.entries) ≡ 0

-- the entry is in front
pub record Added (s t : State) (e : Row) : Type 0 where
  pub tails : TailsKept s t
  pub described : (c : Cache) → Takes c.desk e c.desk.entries → count e.code.0 (codes_of c.desk.entries) ≡ 0
      → Means s c → Means t (added e c)

-- some cache is described that has k entries
pub record Rich (s : State) (k : ℕ) : Type 0 where
  pub cache : Cache
  pub described : Means s cache
  pub some : k ≤ length cache.desk.entries

-- k entries have left from the back; where none leave, the cells are as they were
pub record Shed (s t : State) (k : ℕ) : Type 0 where
  pub tails : TailsKept s t
  pub described : (c : Cache) → k ≤ length c.desk.entries → Means s c → Means t (shed k c)
  pub table : k ≡ 0 → t.cells ≡ s.cells

-- every list reaches what the slot count needs
pub record Spacious (s : State) : Type 0 where
  pub some : 1 ≤ s.head.slots
  pub reach : Reach s.head.slots s.fields
  pub links : Long s.head s.nexts s.prevs s.stack
  pub table : 2 * s.head.slots ≤ length s.cells

-- nothing is held: no slot in use, every field 0, every cell none
pub record Emptied (s t : State) : Type 0 where
  pub tails : TailsKept s t
  pub kind : t.head.kind ≡ s.head.kind
  pub capacity : t.head.capacity ≡ s.head.capacity
  pub slots : t.head.slots ≡ s.head.slots
  pub weight : t.head.weight ≡ 0
  pub top : t.head.top.0 ≡ 0
  pub reach : Reach s.head.slots t.fields
  pub linked : Linked t.head t.nexts t.prevs t.stack [] [] []
  pub blanks : (u : ℕ) → u < s.head.slots → entry_in t.fields u ≡ blank
  pub table : Sound (home_of s.head.slots) (2 * s.head.slots) t.cells t.fields.codes []

-- some cache is described whose entries a capacity holds
pub record Holds (s : State) (n : ℕ) : Type 0 where
  pub cache : Cache
  pub described : Means s cache
  pub allowed : (1 ≤ n) × (n ≤ most_capacity)
  pub fits : spent cache.desk.entries ≤ n

-- the capacity is n; where it was no larger before, the cells are as they were
pub record Capped (s t : State) (n : ℕ) : Type 0 where
  pub tails : TailsKept s t
  pub described : (c : Cache) → spent c.desk.entries ≤ n → Means s c → Means t (capped n c)
  pub table : s.head.capacity ≤ n → t.cells ≡ s.cells
