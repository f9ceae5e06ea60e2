-- Lists of live slots compared by their members. A table says nothing of their order.
-- Assumes nothing.
use Rattle.std.specs.Prelude.{cond, ◌≢◌, ℕ, ◌≤◌, eqb, length}
use mathlib.Core.List.{List, [], ◌∷◌, Memᴰ}

-- the same members, in any order
pub record Same (order order' : List ℕ) : Type 0 where
  pub to : (s : ℕ) → Memᴰ s order → Memᴰ s order'
  pub from : (s : ℕ) → Memᴰ s order' → Memᴰ s order

-- the same members but for s
pub record Without (s : ℕ) (order order' : List ℕ) : Type 0 where
  pub short : length order' ≤ length order
  pub keeps : (x : ℕ) → x ≢ s → Memᴰ x order → Memᴰ x order'
  pub other : (x : ℕ) → Memᴰ x order' → Memᴰ x order × (x ≢ s)

-- the list without s, wherever s stands
unfoldable pub omit : ℕ → List ℕ → List ℕ
omit s [] = []
omit s (x ∷ xs) = cond (eqb x s) (omit s xs) (x ∷ omit s xs)
