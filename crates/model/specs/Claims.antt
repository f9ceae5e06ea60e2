-- What the laws say of the definitions: 01's loop of eviction, what holds of every cache from opening on, and outcomes that differ in slots alone.
-- Assumes nothing.
use Rattle.std.specs.Prelude.{ℕ, zero, suc, ◌+◌, ◌≤◌, Bool, cond, List, [], ◌++◌, ◌≡◌, length}
use Rattle.head.specs.declared.Row.{Row}
use Rattle.head.specs.Bounds.{most_capacity, most_slots}
use Rattle.model.specs.Lists.{but_last, oldest}
use Rattle.model.specs.Desk.{plain, Desk, live, weighs, leaving}
use Rattle.model.specs.Perform.{Outcome}
use Rattle.model.specs.Codes.{codes_of, Distinct}

-- what entries take of the capacity: live + weight
abbrev pub spent : List Row → ℕ
spent es = length es + weighs es

-- the back is dropped while the test holds, at most n times: what is left
abbrev pub remaining : (List Row → Bool) → ℕ → List Row → List Row
remaining over zero es = es
remaining over (suc n) es = cond (over es) (remaining over n (but_last 1 es)) es

-- and what was dropped, in that order
abbrev pub dropped : (List Row → Bool) → ℕ → List Row → List Row
dropped over zero es = []
dropped over (suc n) es = cond (over es) (oldest 1 es ++ dropped over n (but_last 1 es)) []

-- that loop leaves and drops what the budget b leaves and drops
pub record Looped (b n : ℕ) (over : List Row → Bool) (es : List Row) : Type 0 where
  pub left : remaining over n es ≡ but_last (leaving b es) es
  pub out : dropped over n es ≡ oldest (leaving b es) es

-- C and N as opening allows, distinct codes, live + weight ≤ C, live ≤ N, and no weight on a plain cache
pub record Lawful (d : Desk) : Type 0 where
  pub capacity : (1 ≤ d.capacity) × (d.capacity ≤ most_capacity)
  pub room : (1 ≤ d.room) × (d.room ≤ most_slots)
  pub distinct : Distinct (codes_of d.entries)
  pub within : spent d.entries ≤ d.capacity
  pub roomy : live d ≤ d.room
  pub light : d.kind ≡ plain → weighs d.entries ≡ 0

-- two outcomes that differ in slots at most
pub record SlotsApart (o p : Outcome) : Type 0 where
  pub answer : o.answer ≡ p.answer
  pub rows : o.rows ≡ p.rows
  pub desk : o.left.desk ≡ p.left.desk
