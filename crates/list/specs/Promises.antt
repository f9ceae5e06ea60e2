-- What each call asks and what it leaves: a statement for every order, stack and others that are described at entry.
-- Assumes nothing.
use Rattle.std.specs.Prelude.{ℕ, ◌≤◌, ◌<◌, ◌≡◌, List, [], ◌∷◌, ◌++◌, length, get_or}
use Rattle.head.specs.declared.Head.{Head}
use Rattle.head.specs.Bounds.{most_slots}
use Rattle.model.specs.Lists.{without, only, to_front, but_last, oldest}
use Rattle.model.specs.Slots.{taken, top_after}
use Rattle.model.specs.Codes.{count}
use Rattle.list.specs.declared.Taken.{Taken}
use Rattle.head.specs.Tails.{Tail}
use Rattle.list.specs.Links.{Linked, Rest}

-- the links of `others` are untouched
pub record Kept (others nx pv nx' pv' : List ℕ) : Type 0 where
  pub nexts : (i : ℕ) → 1 ≤ count i others → get_or nx' i 0 ≡ get_or nx i 0
  pub prevs : (i : ℕ) → 1 ≤ count i others → get_or pv' i 0 ≡ get_or pv i 0

-- s is a slot, and the links reach it
pub record Room (h : Head) (nx pv : List ℕ) (s : ℕ) : Type 0 where
  pub slot : s < h.slots
  pub nexts : h.slots ≤ length nx
  pub prevs : h.slots ≤ length pv

-- the slot s, at place i of the order, is one of the others now; its links hold what they held
pub record Unlinked (h r : Head) (nx pv nx' pv' : List ℕ) (s : ℕ) : Type 0 where
  pub rest : Rest h r
  pub next_tail : Tail h.slots nx nx'
  pub prev_tail : Tail h.slots pv pv'
  pub linked : (st order free others : List ℕ) (i : ℕ) → only i order ≡ s ∷ [] → Linked h nx pv st order free others
      → Linked r nx' pv' st (without i order) free (s ∷ others)
  pub kept : (st order free others : List ℕ) (i : ℕ) → only i order ≡ s ∷ [] → Linked h nx pv st order free others
      → Kept (s ∷ others) nx pv nx' pv'

-- s, one of the others, is at the front now
pub record Fronted (h r : Head) (nx pv nx' pv' : List ℕ) (s : ℕ) : Type 0 where
  pub rest : Rest h r
  pub next_tail : Tail h.slots nx nx'
  pub prev_tail : Tail h.slots pv pv'
  pub linked : (st order free others : List ℕ) → Linked h nx pv st order free (s ∷ others) → Linked r nx' pv' st (s ∷ order) free others
  pub kept : (st order free others : List ℕ) → Linked h nx pv st order free (s ∷ others) → Kept others nx pv nx' pv'

-- the numbers that stacking slot s needs
pub record Stackable (h : Head) (nx pv st : List ℕ) (s : ℕ) : Type 0 where
  pub room : Room h nx pv s
  pub stacks : h.slots ≤ length st
  pub some : 1 ≤ h.live
  pub deep : h.depth.0 < h.slots

-- s, one of the others, is on the stack now
pub record Released (h r : Head) (nx pv st nx' pv' st' : List ℕ) (s : ℕ) : Type 0 where
  pub rest : Rest h r
  pub next_tail : Tail h.slots nx nx'
  pub prev_tail : Tail h.slots pv pv'
  pub stack_tail : Tail h.slots st st'
  pub linked : (order free others : List ℕ) → Linked h nx pv st order free (s ∷ others) → Linked r nx' pv' st' order (free ++ s ∷ []) others
  pub kept : (order free others : List ℕ) → Linked h nx pv st order free (s ∷ others) → Kept others nx pv nx' pv'

-- the numbers that taking a slot needs
pub record Vacant (h : Head) (st : List ℕ) : Type 0 where
  pub small : h.slots ≤ most_slots
  pub stacks : h.slots ≤ length st
  pub some : h.live < h.slots
  pub deep : h.depth.0 ≤ h.slots
  pub fit : h.top.0 ≤ h.slots

-- the slot that was taken is one of the others now
pub record Given (h : Head) (t : Taken) (st st' : List ℕ) : Type 0 where
  pub rest : Rest h t.head
  pub stack_tail : Tail h.slots st st'
  pub slot : (nx pv order free others : List ℕ) → Linked h nx pv st order free others → t.slot.0 ≡ taken h.top.0 free
  pub top : (nx pv order free others : List ℕ) → Linked h nx pv st order free others → t.head.top.0 ≡ top_after h.top.0 free
  pub linked : (nx pv order free others : List ℕ) → Linked h nx pv st order free others → Linked t.head nx pv st' order (but_last 1 free) (t.slot.0 ∷ others)

-- in a described state s stands in the order
pub record Held (h : Head) (nx pv st : List ℕ) (s : ℕ) : Type 0 where
  pub order : List ℕ
  pub free : List ℕ
  pub others : List ℕ
  pub place : ℕ
  pub there : only place order ≡ s ∷ []
  pub linked : Linked h nx pv st order free others

-- the slot s, at place i of the order, is on the stack now
pub record Removed (h r : Head) (nx pv st nx' pv' st' : List ℕ) (s : ℕ) : Type 0 where
  pub rest : Rest h r
  pub next_tail : Tail h.slots nx nx'
  pub prev_tail : Tail h.slots pv pv'
  pub stack_tail : Tail h.slots st st'
  pub linked : (order free others : List ℕ) (i : ℕ) → only i order ≡ s ∷ [] → Linked h nx pv st order free others
      → Linked r nx' pv' st' (without i order) (free ++ only i order) others
  pub kept : (order free others : List ℕ) (i : ℕ) → only i order ≡ s ∷ [] → Linked h nx pv st order free others → Kept others nx pv nx' pv'

-- the slot s, at place i of the order, is at the front now
pub record Moved (h r : Head) (nx pv nx' pv' : List ℕ) (s : ℕ) : Type 0 where
  pub rest : Rest h r
  pub next_tail : Tail h.slots nx nx'
  pub prev_tail : Tail h.slots pv pv'
  pub linked : (st order free others : List ℕ) (i : ℕ) → only i order ≡ s ∷ [] → Linked h nx pv st order free others
      → Linked r nx' pv' st (to_front i order) free others
  pub kept : (st order free others : List ℕ) (i : ℕ) → only i order ≡ s ∷ [] → Linked h nx pv st order free others → Kept others nx pv nx' pv'

-- a described state has a slot to give
pub record Spare (h : Head) (nx pv st : List ℕ) : Type 0 where
  pub order : List ℕ
  pub free : List ℕ
  pub others : List ℕ
  pub linked : Linked h nx pv st order free others
  pub some : h.live < h.slots

-- the slot that was taken is at the front now
pub record Pushed (h : Head) (t : Taken) (nx pv st nx' pv' st' : List ℕ) : Type 0 where
  pub rest : Rest h t.head
  pub next_tail : Tail h.slots nx nx'
  pub prev_tail : Tail h.slots pv pv'
  pub stack_tail : Tail h.slots st st'
  pub slot : (order free others : List ℕ) → Linked h nx pv st order free others → t.slot.0 ≡ taken h.top.0 free
  pub top : (order free others : List ℕ) → Linked h nx pv st order free others → t.head.top.0 ≡ top_after h.top.0 free
  pub linked : (order free others : List ℕ) → Linked h nx pv st order free others
      → Linked t.head nx' pv' st' (taken h.top.0 free ∷ order) (but_last 1 free) others
  pub kept : (order free others : List ℕ) → Linked h nx pv st order free others → Kept others nx pv nx' pv'

-- a described state has k slots in the order
pub record Enough (h : Head) (nx pv st : List ℕ) (k : ℕ) : Type 0 where
  pub order : List ℕ
  pub free : List ℕ
  pub others : List ℕ
  pub linked : Linked h nx pv st order free others
  pub some : k ≤ length order

-- k slots from the back of the order are on the stack now, the last one first
pub record Evicted (h r : Head) (nx pv st nx' pv' st' : List ℕ) (k : ℕ) : Type 0 where
  pub rest : Rest h r
  pub next_tail : Tail h.slots nx nx'
  pub prev_tail : Tail h.slots pv pv'
  pub stack_tail : Tail h.slots st st'
  pub linked : (order free others : List ℕ) → k ≤ length order → Linked h nx pv st order free others
      → Linked r nx' pv' st' (but_last k order) (free ++ oldest k order) others
  pub kept : (order free others : List ℕ) → k ≤ length order → Linked h nx pv st order free others → Kept others nx pv nx' pv'

-- no slot is in use, none waits, and top is 0
pub record Cleared (h r : Head) (nx pv st nx' pv' st' : List ℕ) : Type 0 where
  pub rest : Rest h r
  pub next_tail : Tail h.slots nx nx'
  pub prev_tail : Tail h.slots pv pv'
  pub stack_tail : Tail h.slots st st'
  pub top : r.top.0 ≡ 0
  pub linked : Linked r nx' pv' st' [] [] []
