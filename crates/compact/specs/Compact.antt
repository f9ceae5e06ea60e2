-- What compacting a list of slots needs and leaves.
-- Assumes nothing.
use Rattle.std.specs.Prelude.{ℕ, ◌-◌, ◌≤◌, ◌<◌, min, ◌≡◌, List, [], ◌++◌, length, get_or, take, drop}
use Rattle.head.specs.declared.Head.{Head}
use Rattle.head.specs.Bounds.{most_slots}
use Rattle.head.specs.Fresh.{recapped}
use Rattle.model.specs.Codes.{count}
use Rattle.model.specs.Slots.{up_from}
use Rattle.list.specs.Order.{place_at}
use Rattle.head.specs.Tails.{Tail}
use Rattle.head.specs.Walks.{walk}
use Rattle.list.specs.Links.{Linked, Sound, Rest}
use Rattle.compact.specs.Plan.{partners, exchanges, Fit}
use Rattle.compact.specs.Anew.{NextOf, PrevOf, StackOf, Filled}
use Rattle.head.specs.Fields.{Fields, Reach}

-- the first numbers of each list are exchanged in this row
pub record Exchanged (ss : List ℕ) (f g : Fields) : Type 0 where
  pub codes : g.codes ≡ exchanges 0 ss f.codes
  pub stamps : g.stamps ≡ exchanges 0 ss f.stamps
  pub values : g.values ≡ exchanges 0 ss f.values
  pub weights : g.weights ≡ exchanges 0 ss f.weights

-- the slots outside the order hold 0
abbrev pub Blank : ℕ → List ℕ → List ℕ → Type 0
Blank n order f = (u : ℕ) → u < n → count u order ≡ 0 → get_or f u 0 ≡ 0

-- so it is in all four lists
pub record AllBlank (n : ℕ) (order : List ℕ) (f : Fields) : Type 0 where
  pub codes : Blank n order f.codes
  pub stamps : Blank n order f.stamps
  pub values : Blank n order f.values
  pub weights : Blank n order f.weights

-- what stood in the slots of `order` stands in the slots 0, 1 and so on; those from there to n hold 0, if the slots outside the order did
pub record Carried (n : ℕ) (order f g : List ℕ) : Type 0 where
  pub places : (i : ℕ) → i < length order → get_or g i 0 ≡ get_or f (get_or order i 0) 0
  pub blanks : Blank n order f → (u : ℕ) → length order ≤ u → u < n → get_or g u 0 ≡ 0
  pub tail : Tail n f g

-- so it is in all four lists
pub record Moved (n : ℕ) (order : List ℕ) (f g : Fields) : Type 0 where
  pub codes : Carried n order f.codes g.codes
  pub stamps : Carried n order f.stamps g.stamps
  pub values : Carried n order f.values g.values
  pub weights : Carried n order f.weights g.weights

-- the links reach n slots, and the `live` slots that the next links lead to from `front` on are below n, each once
pub record Walkable (n live front : ℕ) (nx pv st : List ℕ) : Type 0 where
  pub small : n ≤ most_slots
  pub few : live ≤ n
  pub nexts : n ≤ length nx
  pub prevs : n ≤ length pv
  pub stacks : n ≤ length st
  pub fit : Fit 0 n (walk nx front live)

-- the order stands in the stack's cells, and each slot's place in it in prev; none for the slots outside
pub record Numbered (n : ℕ) (order pv st pv' st' : List ℕ) : Type 0 where
  pub cells : st' ≡ order ++ drop (length order) st
  pub places : (u : ℕ) → u < n → get_or pv' u 0 ≡ place_at 0 order u
  pub tail : Tail n pv pv'

-- the first numbers of the stack's cells are such an order
pub record Plannable (n live : ℕ) (pv st : List ℕ) : Type 0 where
  pub small : n ≤ most_slots
  pub few : live ≤ n
  pub prevs : n ≤ length pv
  pub stacks : n ≤ length st
  pub fit : Fit 0 n (take live st)
  pub places : (u : ℕ) → u < n → get_or pv u 0 ≡ place_at 0 (take live st) u

-- the row of exchanges for an order stands in the stack's cells
pub record Planned (n : ℕ) (order pv st pv' st' : List ℕ) : Type 0 where
  pub cells : st' ≡ partners (length order) 0 order ++ drop (length order) st
  pub tail : Tail n pv pv'

-- the list's first elements can be exchanged in this row
pub record Exchangeable {A : Type 0} (ss : List ℕ) (l : List A) : Type 0 where
  pub few : length ss ≤ length l
  pub each : (j : ℕ) → j < length ss → get_or ss j 0 < length l

-- so it is in all four lists
pub record AllExchangeable (ss : List ℕ) (f : Fields) : Type 0 where
  pub codes : Exchangeable ss f.codes
  pub stamps : Exchangeable ss f.stamps
  pub values : Exchangeable ss f.values
  pub weights : Exchangeable ss f.weights

-- links of n slots can be written for these numbers
pub record Writable (n live t : ℕ) (nx pv st : List ℕ) : Type 0 where
  pub small : n ≤ most_slots
  pub low : live ≤ t
  pub high : t ≤ n
  pub nexts : n ≤ length nx
  pub prevs : n ≤ length pv
  pub stacks : n ≤ length st

-- the links of n slots are those of `live` entries in the slots 0, 1 and so on, with the slots from there to t on the stack
pub record LinksWritten (n live t : ℕ) (nx pv st nx' pv' st' : List ℕ) : Type 0 where
  pub nexts : Filled n (NextOf live) nx nx'
  pub prevs : Filled n (PrevOf live t) pv pv'
  pub stacks : Filled n (StackOf live t) st st'

-- a sound list whose entries can come to the slots below t
pub record Compactable (h : Head) (nx pv st : List ℕ) (f : Fields) (t : ℕ) : Type 0 where
  pub sound : Sound h nx pv st
  pub reach : Reach h.slots f
  pub low : h.live ≤ t
  pub high : t ≤ h.slots

-- the entry at place i stands in slot i; the slots from there to t are the stack, ascending
pub record Compacted (h r : Head) (nx pv st nx' pv' st' : List ℕ) (f g : Fields) (t : ℕ) : Type 0 where
  pub top : r.top.0 ≡ t
  pub next_tail : Tail h.slots nx nx'
  pub prev_tail : Tail h.slots pv pv'
  pub stack_tail : Tail h.slots st st'
  pub linked : (order free : List ℕ) → Linked h nx pv st order free [] → Linked r nx' pv' st' (up_from 0 (length order)) (up_from (length order) (t - length order)) []
  pub moved : (order free : List ℕ) → Linked h nx pv st order free [] → Moved h.slots order f g

-- compacted, and the head's other numbers are as they were
pub record Reordered (h r : Head) (nx pv st nx' pv' st' : List ℕ) (f g : Fields) (t : ℕ) : Type 0 where
  pub rest : Rest h r
  pub live : r.live ≡ h.live
  pub compacted : Compacted h r nx pv st nx' pv' st' f g t

-- a sound list that the capacity d still holds
pub record Resizable (h : Head) (nx pv st : List ℕ) (f : Fields) (d : ℕ) : Type 0 where
  pub sound : Sound h nx pv st
  pub reach : Reach h.slots f
  pub fits : h.live ≤ d

-- no slot moved, and only the capacity changed
pub record Stayed (h r : Head) (nx pv st nx' pv' st' : List ℕ) (f g : Fields) (d : ℕ) : Type 0 where
  pub head : r ≡ recapped d h
  pub nexts : nx' ≡ nx
  pub prevs : pv' ≡ pv
  pub stacks : st' ≡ st
  pub fields : g ≡ f

-- the capacity is d: compacted where that is less, and no slot moved where it is not
pub record Resized (h r : Head) (nx pv st nx' pv' st' : List ℕ) (f g : Fields) (d : ℕ) : Type 0 where
  pub kind : r.kind ≡ h.kind
  pub capacity : r.capacity ≡ d
  pub slots : r.slots ≡ h.slots
  pub live : r.live ≡ h.live
  pub weight : r.weight ≡ h.weight
  pub shrunk : d < h.capacity → Compacted h r nx pv st nx' pv' st' f g (min h.top.0 d)
  pub stayed : h.capacity ≤ d → Stayed h r nx pv st nx' pv' st' f g d
