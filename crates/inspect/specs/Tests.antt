-- The tests that decide, beside those of links and table, whether head and lists describe a cache, as the code runs them.
-- Assumes nothing.
use Rattle.std.specs.Prelude.{ℕ, zero, suc, ◌-◌, ◌≤◌, ◌<◌, Bool, true, cond, ◌&&◌, List, eqb, leb, length, get_or}
use Rattle.head.specs.declared.Head.{Head}
use Rattle.head.specs.Bounds.{plain_kind, unused_mark, allowed}
use Rattle.head.specs.Fields.{Fields}
use Rattle.table.specs.Acts.{standing}
use Rattle.store.specs.Acts.{Writable}

-- the head's numbers are as opening allows, live + weight is at most the capacity, and a plain cache weighs nothing
unfoldable pub head_ok : Head → Bool
head_ok h =
    allowed h.kind h.capacity h.slots
    && (leb h.weight h.capacity
    && (leb h.live (h.capacity - h.weight)
    && cond (eqb h.kind plain_kind) (eqb h.weight 0) true))

-- a slot has the unused mark, or the search for its code ends at it
unfoldable pub used_stands : (ℕ → ℕ) → ℕ → List ℕ → List ℕ → List ℕ → ℕ → Bool
used_stands home m cells codes nx s = cond (eqb (get_or nx s 0) unused_mark) true (standing home m cells codes s)

-- k weights from place i on, taken off one after another, leave nothing
unfoldable pub sum_ok : List ℕ → ℕ → ℕ → ℕ → Bool
sum_ok ws zero i left = eqb left 0
sum_ok ws (suc k) i left = leb (get_or ws i 0) left && sum_ok ws k (suc i) (left - get_or ws i 0)

-- a list has the number x at place k
unfoldable pub is_at : ℕ → List ℕ → ℕ → Bool
is_at x l k = eqb (get_or l k 0) x

-- a slot's four fields are 0
unfoldable pub blank_at : Fields → ℕ → Bool
blank_at f u = eqb (get_or f.codes u 0) 0 && (eqb (get_or f.stamps u 0) 0 && (eqb (get_or f.values u 0) 0 && eqb (get_or f.weights u 0) 0))

-- those of the slot at place k of the stack are
unfoldable pub stack_blank : Fields → List ℕ → ℕ → Bool
stack_blank f st k = blank_at f (get_or st k 0)

-- the stack's list reaches its depth, and each slot on the stack has its place in all four lists of fields
pub record Piled (f : Fields) (st : List ℕ) (depth : ℕ) : Type 0 where
  pub long : depth ≤ length st
  pub slots : (k : ℕ) → k < depth → Writable (get_or st k 0) f
