-- One guarded store and one guarded choice, as the code makes them.
-- Assumes nothing.
use Rattle.std.specs.Prelude.{ℕ, cond, List, set, ltb}

-- the list with v at place i, if that is below n
unfoldable pub put_at : ℕ → List ℕ → ℕ → ℕ → List ℕ
put_at n l i v = cond (ltb i n) (set l i v) l

-- a if i is below n, else b
unfoldable pub choice : ℕ → ℕ → ℕ → ℕ → ℕ
choice n i a b = cond (ltb i n) a b
