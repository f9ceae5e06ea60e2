-- Whether the lent lists are long enough.
-- Assumes nothing.
use Rattle.std.specs.Prelude.{ℕ, ◌*◌, ◌≤◌, Bool, ◌&&◌, List, leb, length}
use Rattle.head.specs.Fields.{Fields, Reach}
use Rattle.state.specs.State.{State}

-- n slots have room in lists of these lengths: four of fields, two of links, a stack, and cells
abbrev pub long_enough : ℕ → ℕ → ℕ → ℕ → ℕ → ℕ → ℕ → ℕ → ℕ → Bool
long_enough n a b c d e f g h = leb n a && (leb n b && (leb n c && (leb n d && (leb n e && (leb n f && (leb n g && leb (2 * n) h))))))

-- the test on the lists themselves
abbrev pub all_long : ℕ → Fields → List ℕ → List ℕ → List ℕ → List ℕ → Bool
all_long n f nx pv st cells =
    long_enough n (length f.codes) (length f.stamps) (length f.values) (length f.weights) (length nx) (length pv) (length st) (length cells)

-- what it says
pub record AllReach (n : ℕ) (f : Fields) (nx pv st cells : List ℕ) : Type 0 where
  pub reach : Reach n f
  pub nexts : n ≤ length nx
  pub prevs : n ≤ length pv
  pub stacks : n ≤ length st
  pub table : 2 * n ≤ length cells

-- the lists of a state are long enough for n slots
abbrev pub spacious : ℕ → State → Bool
spacious n s = all_long n s.fields s.nexts s.prevs s.stack s.cells
