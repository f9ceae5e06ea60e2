-- What a call does to a cache is one of ten moves: what each leaves of the recency list, and of the slots.
-- Assumes nothing.
use Rattle.std.specs.Prelude.{ℕ, cond, List, [], ◌∷◌, ◌++◌, ltb}
use Rattle.head.specs.declared.Row.{Row}
use Rattle.head.specs.declared.Rule.{Rule}
use Rattle.model.specs.Lists.{without, to_front, but_last, marked, others}
use Rattle.model.specs.Desk.{Desk, revalued, marks}
use Rattle.model.specs.Slots.{Slots, pushed, released, evicted, raised, compacted, unused}

-- what a call does to a cache
pub data Move : Type 0 where
  -- nothing changes
  stay : Move
  -- the entry at a place moves to the front
  raise : ℕ → Move
  -- the entry at a place takes a value
  set : ℕ → ℕ → Move
  -- the entry at a place takes a value and moves to the front
  renew : ℕ → ℕ → Move
  -- the entry at a place leaves
  drop : ℕ → Move
  -- so many leave from the back, then a new entry stands in front
  place : ℕ → Row → Move
  -- the entry at a place leaves, then so many from the back, then a new entry stands in front
  replace : ℕ → ℕ → Row → Move
  -- so many leave from the back, then the capacity is set
  fit : ℕ → ℕ → Move
  -- those that a rule does not keep leave, front to back
  sweep : Rule → Move
  -- all leave, and no slot counts as used
  clear : Move

-- the desk with another recency list
abbrev pub holding : Desk → List Row → Desk
holding d es = record { kind = d.kind; capacity = d.capacity; room = d.room; entries = es }

-- what a move leaves of the recency list and the capacity
abbrev pub on_desk : Move → Desk → Desk
on_desk stay d = d
on_desk (raise i) d = holding d (to_front i d.entries)
on_desk (set i v) d = holding d (revalued i v d.entries)
on_desk (renew i v) d = holding d (to_front i (revalued i v d.entries))
on_desk (drop i) d = holding d (without i d.entries)
on_desk (place k e) d = holding d (e ∷ but_last k d.entries)
on_desk (replace i k e) d = holding d (e ∷ but_last k (without i d.entries))
on_desk (fit k c) d = record { kind = d.kind; capacity = c; room = d.room; entries = but_last k d.entries }
on_desk (sweep q) d = holding d (marked (marks q d.entries) d.entries)
on_desk clear d = holding d []

-- what a move on the desk d leaves of the slots: only a smaller capacity compacts them
abbrev pub on_slots : Move → Desk → Slots → Slots
on_slots stay d s = s
on_slots (raise i) d s = raised i s
on_slots (set i v) d s = s
on_slots (renew i v) d s = raised i s
on_slots (drop i) d s = released i s
on_slots (place k e) d s = pushed (evicted k s)
on_slots (replace i k e) d s = pushed (evicted k (released i s))
on_slots (fit k c) d s = cond (ltb c d.capacity) (compacted c (evicted k s)) (evicted k s)
on_slots (sweep q) d s = record {
  order = marked (marks q d.entries) s.order;
  free = s.free ++ marked (others (marks q d.entries)) s.order;
  top = s.top;
}
on_slots clear d s = unused
