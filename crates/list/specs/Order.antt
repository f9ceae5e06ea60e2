-- What the links say of an order of slots (front to back) and a free stack (bottom first), slot by slot.
-- Assumes nothing.
use Rattle.std.specs.Prelude.{ℕ, suc, cond, List, [], ◌∷◌, eqb, ltb}
use Rattle.head.specs.Bounds.{none_mark, unused_mark}

-- a where x is i, else b
unfoldable pub ifeq : ℕ → ℕ → ℕ → ℕ → ℕ
ifeq x i a b = cond (eqb x i) a b

-- 1 below t, else 0
unfoldable pub below : ℕ → ℕ → ℕ
below i t = cond (ltb i t) 1 0

-- the first number of a list, or d
abbrev pub head_or : ℕ → List ℕ → ℕ
head_or d [] = d
head_or d (x ∷ xs) = x

-- the last number of a list, or d
abbrev pub last_or : ℕ → List ℕ → ℕ
last_or d [] = d
last_or d (x ∷ xs) = last_or x xs

-- what slot i's next holds: its successor in the order, none at the end, the unused mark where it is not in the order
abbrev pub next_at : List ℕ → ℕ → ℕ
next_at [] i = unused_mark
next_at (x ∷ xs) i = ifeq x i (head_or none_mark xs) (next_at xs i)

-- slot i's predecessor in the order, p before the first; d where it is not in the order
abbrev pub prev_at : ℕ → List ℕ → ℕ → ℕ → ℕ
prev_at p [] i d = d
prev_at p (x ∷ xs) i d = ifeq x i p (prev_at x xs i d)

-- the place of i in the list, counted from k, or none
abbrev pub place_at : ℕ → List ℕ → ℕ → ℕ
place_at k [] i = none_mark
place_at k (x ∷ xs) i = ifeq x i k (place_at (suc k) xs i)
