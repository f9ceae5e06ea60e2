-- A walk along links.
-- Assumes nothing.
use Rattle.std.specs.Prelude.{ℕ, zero, suc, List, [], ◌∷◌, get_or}

-- k slots from `cur` on, each link naming the one after
unfoldable pub walk : List ℕ → ℕ → ℕ → List ℕ
walk next cur zero = []
walk next cur (suc k) = cur ∷ walk next (get_or next cur 0) k
