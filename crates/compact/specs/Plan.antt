-- How a rearrangement of slots is carried out in place, as a row of exchanges: slot i with the slot where the entry of place i stands by then.
-- Assumes nothing.
use Rattle.std.specs.Prelude.{ℕ, zero, suc, ◌≤◌, ◌<◌, List, [], ◌∷◌, swap}
use Rattle.model.specs.Codes.{count}
use Rattle.list.specs.Order.{ifeq}

-- s where a stood
abbrev pub renamed : ℕ → ℕ → List ℕ → List ℕ
renamed a s [] = []
renamed a s (x ∷ xs) = ifeq x a s x ∷ renamed a s xs

-- the slots to exchange with slot i, with slot i + 1 and so on, k of them, where the entries of the places from i on stand in these slots:
-- what stood in slot i stands in slot s after the first exchange
abbrev pub partners : ℕ → ℕ → List ℕ → List ℕ
partners zero i slots = []
partners (suc k) i [] = []
partners (suc k) i (s ∷ rest) = s ∷ partners k (suc i) (renamed i s rest)

-- slot i exchanged with the first, slot i + 1 with the second, and so on
abbrev pub exchanges : {A : Type 0} → ℕ → List ℕ → List A → List A
exchanges i [] l = l
exchanges i (s ∷ ss) l = exchanges (suc i) ss (swap l i s)

-- the slots are from i to below n, each once
pub record Fit (i n : ℕ) (slots : List ℕ) : Type 0 where
  pub high : (x : ℕ) → 1 ≤ count x slots → i ≤ x
  pub low : (x : ℕ) → 1 ≤ count x slots → x < n
  pub once : (x : ℕ) → count x slots ≤ 1
