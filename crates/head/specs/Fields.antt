-- The four lists that hold the entries' numbers, slot by slot.
-- Assumes nothing.
use Rattle.std.specs.Prelude.{ℕ, ◌≤◌, List, length}

-- a list for each number of an entry
pub record Fields : Type 0 where
  pub codes : List ℕ
  pub stamps : List ℕ
  pub values : List ℕ
  pub weights : List ℕ

-- each of them reaches n slots
pub record Reach (n : ℕ) (f : Fields) : Type 0 where
  pub codes : n ≤ length f.codes
  pub stamps : n ≤ length f.stamps
  pub values : n ≤ length f.values
  pub weights : n ≤ length f.weights
