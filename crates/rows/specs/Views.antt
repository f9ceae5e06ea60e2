-- A described cache, seen from the lists that are read, and the one slot that may be skipped.
-- Assumes nothing.
use Rattle.std.specs.Prelude.{ℕ, suc, ◌+◌, ◌≤◌, ◌<◌, cond, List, [], ◌∷◌, ◌≡◌, eqb, length, get_or}
use Rattle.head.specs.declared.Head.{Head}
use Rattle.head.specs.Bounds.{none_mark, most_capacity}
use Rattle.model.specs.Perform.{Cache}
use Rattle.head.specs.Fields.{Fields}
use Rattle.store.specs.State.{fields, Describes}

-- the fields and the prev links are those of a cache
pub record Backward (h : Head) (f : Fields) (pv : List ℕ) (c : Cache) : Type 0 where
  pub nexts : List ℕ
  pub stack : List ℕ
  pub cells : List ℕ
  pub described : Describes h f nexts pv stack cells c

-- the fields and the next links are those of a cache
pub record Forward (h : Head) (f : Fields) (nx : List ℕ) (c : Cache) : Type 0 where
  pub prevs : List ℕ
  pub stack : List ℕ
  pub cells : List ℕ
  pub described : Describes h f nx prevs stack cells c

-- the weights and the prev links are those of a cache
pub record Weighted (h : Head) (ws pv : List ℕ) (c : Cache) : Type 0 where
  pub codes : List ℕ
  pub stamps : List ℕ
  pub values : List ℕ
  pub backward : Backward h (fields codes stamps values ws) pv c

-- what is skipped: a slot, or none
abbrev pub skipped : ℕ → List ℕ
skipped s = cond (eqb s none_mark) [] (s ∷ [])

-- the slot itself, or the one ahead of it where it is to be skipped
abbrev pub past_at : List ℕ → ℕ → ℕ → ℕ
past_at pv skip s = cond (eqb s skip) (get_or pv s 0) s

-- what the skipped slot takes of the capacity
abbrev pub cost_at : List ℕ → ℕ → ℕ
cost_at ws skip = cond (eqb skip none_mark) 0 (suc (get_or ws skip 0))

-- the head's numbers, and the skipped slot's weight, are small enough
pub record Countable (h : Head) (ws : List ℕ) (skip : ℕ) : Type 0 where
  pub small : h.live + h.weight ≤ most_capacity
  pub inside : (skip ≡ none_mark → ⊥) → skip < length ws
  pub less : cost_at ws skip ≤ h.live + h.weight
