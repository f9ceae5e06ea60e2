-- What is done to a list, whatever it holds: the recency list and the list of its slots are treated alike. The front is place 0.
-- Assumes nothing.
use Rattle.std.specs.Prelude.{ℕ, zero, suc, ◌-◌, Bool, cond, not, List, [], ◌∷◌, ◌++◌, reverse, map, length, take, drop}

-- the list without what stands at place i
abbrev pub without : {A : Type 0} → ℕ → List A → List A
without i [] = []
without zero (x ∷ xs) = xs
without (suc i) (x ∷ xs) = x ∷ without i xs

-- what stands at place i, as a list of one; of none where the list ends before
abbrev pub only : {A : Type 0} → ℕ → List A → List A
only i [] = []
only zero (x ∷ xs) = x ∷ []
only (suc i) (x ∷ xs) = only i xs

-- what stands at place i moves to the front
abbrev pub to_front : {A : Type 0} → ℕ → List A → List A
to_front i xs = only i xs ++ without i xs

-- the list without the last k
abbrev pub but_last : {A : Type 0} → ℕ → List A → List A
but_last k xs = take (length xs - k) xs

-- the last k, the last one first
abbrev pub oldest : {A : Type 0} → ℕ → List A → List A
oldest k xs = reverse (drop (length xs - k) xs)

-- what is marked true, in order
abbrev pub marked : {A : Type 0} → List Bool → List A → List A
marked [] xs = []
marked (b ∷ bs) [] = []
marked (b ∷ bs) (x ∷ xs) = cond b (x ∷ marked bs xs) (marked bs xs)

-- the marks turned round
abbrev pub others : List Bool → List Bool
others bs = map not bs
