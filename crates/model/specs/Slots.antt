-- Where the entries stand: the slot of each, the free stack, and `top`, the crate's `nodes.len()`: below it each slot holds an entry or waits on the stack, from it on none does.
-- Assumes nothing.
use Rattle.std.specs.Prelude.{ℕ, zero, suc, ◌-◌, min, List, [], ◌∷◌, ◌++◌, length}
use Rattle.model.specs.Lists.{without, only, to_front, but_last, oldest}

-- `order` has the entries' slots, front to back; `free` the stack, bottom first
pub record Slots : Type 0 where
  pub order : List ℕ
  pub free : List ℕ
  pub top : ℕ

-- the last number on the stack, or `top` where it is empty
abbrev pub taken : ℕ → List ℕ → ℕ
taken t [] = t
taken t (x ∷ []) = x
taken t (x ∷ y ∷ ys) = taken t (y ∷ ys)

-- `top` after that: it grows only where the stack was empty
abbrev pub top_after : ℕ → List ℕ → ℕ
top_after t [] = suc t
top_after t (x ∷ xs) = t

-- a new entry in front takes the last number on the stack, else slot `top`
abbrev pub pushed : Slots → Slots
pushed s = record {
  order = taken s.top s.free ∷ s.order;
  free = but_last 1 s.free;
  top = top_after s.top s.free;
}

-- the slot at place i of the order goes on the stack
abbrev pub released : ℕ → Slots → Slots
released i s = record { order = without i s.order; free = s.free ++ only i s.order; top = s.top }

-- k leave from the back, one after another, each slot to the stack
abbrev pub evicted : ℕ → Slots → Slots
evicted k s = record { order = but_last k s.order; free = s.free ++ oldest k s.order; top = s.top }

-- the slot at place i moves to the front
abbrev pub raised : ℕ → Slots → Slots
raised i s = record { order = to_front i s.order; free = s.free; top = s.top }

-- n numbers from a on, ascending
abbrev pub up_from : ℕ → ℕ → List ℕ
up_from a zero = []
up_from a (suc n) = a ∷ up_from (suc a) n

-- shrinking to d: place i in slot i, `top` at most d, the stack from live to `top`, ascending
abbrev pub compacted : ℕ → Slots → Slots
compacted d s = record {
  order = up_from 0 (length s.order);
  free = up_from (length s.order) (min s.top d - length s.order);
  top = min s.top d;
}

-- no slot used
abbrev pub unused : Slots
unused = record { order = []; free = []; top = 0 }
