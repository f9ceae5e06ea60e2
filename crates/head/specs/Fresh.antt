-- Heads that are made: of a cache that holds nothing yet, and with another number.
-- Assumes nothing.
use Rattle.std.specs.Prelude.{ℕ}
use Rattle.head.specs.declared.Head.{Head}
use Rattle.head.specs.Bounds.{none_mark}

-- nothing live, no weight, no front and no back, top 0, an empty stack
abbrev pub fresh_head : ℕ → ℕ → ℕ → Head
fresh_head kind capacity slots = record {
  kind = kind;
  capacity = capacity;
  slots = slots;
  live = 0;
  weight = 0;
  front = record { 0 = none_mark };
  back = record { 0 = none_mark };
  top = record { 0 = 0 };
  depth = record { 0 = 0 };
}

-- the head with another capacity and weight
abbrev pub renumbered : ℕ → ℕ → Head → Head
renumbered capacity weight h = record {
  kind = h.kind;
  capacity = capacity;
  slots = h.slots;
  live = h.live;
  weight = weight;
  front = h.front;
  back = h.back;
  top = h.top;
  depth = h.depth;
}

-- the head with another weight
abbrev pub reweighed : ℕ → Head → Head
reweighed weight h = renumbered h.capacity weight h

-- the head with another capacity
abbrev pub recapped : ℕ → Head → Head
recapped capacity h = renumbered capacity h.weight h
