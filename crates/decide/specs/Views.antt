-- A described cache, seen from what a deciding function is handed.
-- Assumes nothing.
use Rattle.std.specs.Prelude.{◌≡◌, ℕ, ◌*◌, List}
use Rattle.head.specs.declared.Head.{Head}
use Rattle.crc.specs.Home.{home_of}
use Rattle.model.specs.Perform.{Cache}
use Rattle.table.specs.declared.Search.{Search}
use Rattle.table.specs.Cells.{sought}
use Rattle.store.specs.State.{fields, Describes}
use Rattle.rows.specs.Views.{Weighted}

-- some cache is seen
pub record ForSome (P : Cache → Type 0) : Type 0 where
  pub cache : Cache
  pub seen : P cache

-- the head and the values are those of a cache, and the search for a code in its table has this answer
pub record Sought (h : Head) (values : List ℕ) (a : Search) (code : ℕ) (c : Cache) : Type 0 where
  pub codes : List ℕ
  pub stamps : List ℕ
  pub weights : List ℕ
  pub nexts : List ℕ
  pub prevs : List ℕ
  pub stack : List ℕ
  pub cells : List ℕ
  pub described : Describes h (fields codes stamps values weights) nexts prevs stack cells c
  pub answer : a ≡ sought (home_of h.slots) (2 * h.slots) cells codes code

-- and the weights and the prev links are that cache's
pub record Loaded (h : Head) (values weights prevs : List ℕ) (a : Search) (code : ℕ) (c : Cache) : Type 0 where
  pub searched : Sought h values a code c
  pub weighted : Weighted h weights prevs c
