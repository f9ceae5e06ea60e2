-- The few acts that change a cache, of which the moves of `model` are made.
-- Assumes nothing.
use Rattle.std.specs.Prelude.{ℕ, Bool, cond, List, ◌∷◌, ◌++◌, ltb, take, drop}
use Rattle.head.specs.declared.Row.{Row}
use Rattle.head.specs.declared.Rule.{Rule}
use Rattle.model.specs.Lists.{but_last, marked, others}
use Rattle.model.specs.Desk.{marks}
use Rattle.model.specs.Slots.{pushed, evicted, compacted}
use Rattle.model.specs.Moves.{Move, holding, on_desk, on_slots}
use Rattle.model.specs.Perform.{Cache}

-- what a move leaves
abbrev pub after : Move → Cache → Cache
after m c = record { desk = on_desk m c.desk; slots = on_slots m c.desk c.slots }

-- k entries leave from the back
abbrev pub shed : ℕ → Cache → Cache
shed k c = record { desk = holding c.desk (but_last k c.desk.entries); slots = evicted k c.slots }

-- a new entry in front
abbrev pub added : Row → Cache → Cache
added e c = record { desk = holding c.desk (e ∷ c.desk.entries); slots = pushed c.slots }

-- another capacity; a smaller one compacts the slots
abbrev pub capped : ℕ → Cache → Cache
capped n c = record {
  desk = record { kind = c.desk.kind; capacity = n; room = c.desk.room; entries = c.desk.entries };
  slots = cond (ltb n c.desk.capacity) (compacted n c.slots) c.slots;
}

-- from place n on, those that a rule does not keep leave, front to back
abbrev pub swept_from : ℕ → Rule → Cache → Cache
swept_from n q c =
    let bs : List Bool = marks q (drop n c.desk.entries) in
    record {
      desk = holding c.desk (take n c.desk.entries ++ marked bs (drop n c.desk.entries));
      slots = record {
        order = take n c.slots.order ++ marked bs (drop n c.slots.order);
        free = c.slots.free ++ marked (others bs) (drop n c.slots.order);
        top = c.slots.top;
      };
    }
